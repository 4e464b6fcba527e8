use Rattle.call_graph.specs.Faults.{IsLinkFault}
use Rattle.call_graph.proofs.Linked.{few, no-fault, passes, the-fault}
use Rattle.call_graph.specs.OfPrograms.Definitions.{definitions, trees_in}
use Rattle.call_graph.specs.OfPrograms.Repeats.{link_fault}
use Rattle.call_graph.proofs.linking.link.Goals as goal

pub gather-requires : goal.gather-requires
gather-requires c = few c.args.units.items _ (c.units_are_listed.ensures c.args.units.items) c.requires.few_functions

pub new-requires-clause-linked : goal.new-requires-clause-linked
new-requires-clause-linked c = no-fault c.args.units.items (c.units_are_listed.ensures c.args.units.items) c.in_ok-functions.ensures.linked

pub returns-clause-linked : goal.returns-clause-linked
returns-clause-linked c = no-fault c.args.units.items (c.units_are_listed.ensures c.args.units.items) c.in_ok-functions.ensures.linked

pub returns-in_err-functions-clause-fault : goal.returns-in_err-functions-clause-fault
returns-in_err-functions-clause-fault c =
    let units = c.args.units.items in
    passes c.from_residual.result c.in_err-functions.field-0.0 (λ e. IsLinkFault e (link_fault (definitions (trees_in units)))) c.from_residual.ensures.1
    (the-fault units c.in_err-functions.field-0.0 (c.units_are_listed.ensures units) c.in_err-functions.ensures.repeated)
