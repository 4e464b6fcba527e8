use Rattle.std.proofs.Common.{◌≡◌, sym, subst}
use Rattle.metal_tree.specs.MetalMachines.Kept.{IsKept}
use Rattle.metal_grammar.proofs.Kept.{texts_are_kept}
use Rattle.metal_written.specs.Written.{clause_views}
use Rattle.metal_numbers.proofs.MetalBuilding.Made.{made_by}
use Rattle.metal_numbers.proofs.metal_building.machines.made_of.Goals as goal

pub invariant_of-result : goal.invariant_of-result
invariant_of-result c =
    let b = c.args.builder.now in
    let cs = clause_views c.args.clauses.now in
    let made =
    made_by b cs c.args.declared.now c.in_ok-in_order.field-0.now c.machine_name.result c.in_ok-holes_of.field-0.now c.args.rules.now c.in_ok-rules.field-0.now
    c.requires.right c.requires.numbers c.requires.variables c.requires.declared c.requires.rules c.machine_name.ensures c.in_ok-in_order.ensures c.in_ok-holes_of.ensures c.in_ok-rules.ensures.made
    in
    record { kept = subst IsKept (sym made) (texts_are_kept b.names.now c.requires.text.0 cs c.requires.text.1 c.requires.fine) }

pub returns-clause-machine : goal.returns-clause-machine
returns-clause-machine c =
    made_by c.args.builder.now (clause_views c.args.clauses.now) c.args.declared.now c.in_ok-in_order.field-0.now c.machine_name.result c.in_ok-holes_of.field-0.now c.args.rules.now c.in_ok-rules.field-0.now
    c.requires.right c.requires.numbers c.requires.variables c.requires.declared c.requires.rules c.machine_name.ensures c.in_ok-in_order.ensures c.in_ok-holes_of.ensures c.in_ok-rules.ensures.made
