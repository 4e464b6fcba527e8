use Rattle.root_functions.specs.CallSites.Calls.{nodes_at}
use Rattle.call_graph.specs.FunctionGraphs.Known.{known_by}
use Rattle.metal_tree.specs.Whole.{machine_view}
use Rattle.root_functions.proofs.Leading.{all_lead}
use Rattle.root_functions.proofs.callees.callees_of.Goals as goal
use Rattle.typed_unit.specs.Functions.{function_of}

pub returns-clause-exact : goal.returns-clause-exact
returns-clause-exact c =
    all_lead (machine_view c.args.machine.now) c.args.program.now.units.items c.args.f.number (function_of c.function-function.result.now) (nodes_at c.in_ok-calls.calls.items)
    (known_by c.new-facts.result) c.followed_by.result c.function-function.ensures.defined c.new-facts.ensures c.in_ok-calls.ensures.evaluated c.followed_by.ensures.exact
