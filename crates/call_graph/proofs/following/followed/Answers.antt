use Rattle.std.proofs.Common.{◌≡◌, ◌∙◌, ℕ, Option, Some, None, Bor, ap, sym, subst}
use Rattle.c_tree.specs.Views.{node_of, nodes_of}
use Rattle.type_rules.specs.Options.{◌>?◌}
use Rattle.call_graph.specs.Followed.{body_followed}
use Rattle.metal_tree.specs.Whole.{machine_view}
use Rattle.call_graph.specs.OfPrograms.Calls.{called_name_at}
use Rattle.call_graph.specs.OfPrograms.Definitions.{definitions, trees_in}
use Rattle.call_graph.proofs.OfPrograms.Placed.{one-unit}
use Rattle.typed_unit.specs.declared.typed_unit.TypedUnit.{TypedUnit}
use Rattle.typed_unit.specs.Places.{StandsAt}
use Rattle.call_graph.proofs.following.followed.Goals as goal

pub returns-in-None-clause-placed : goal.returns-in-None-clause-placed
returns-in-None-clause-placed c u v r s h =
    let e = node_of c.args.site.now in
    let units = c.args.program.now.units.items in
    let there = subst (λ (w : Bor TypedUnit). StandsAt (nodes_of w.now.unit.chunks) v r e) (one-unit units c.args.unit u c.unit.result s c.unit.ensures) h in
    let named : called_name_at v e ≡ None = sym (c.called_name.ensures.placed v r there) ∙ c.in-None.is in
    sym (ap (λ (o : Option ℕ). o >? body_followed (machine_view c.args.machine.now) c.args.unit (definitions (trees_in units))) named)

pub returns-in-Some-clause-placed : goal.returns-in-Some-clause-placed
returns-in-Some-clause-placed c u v r s h =
    let e = node_of c.args.site.now in
    let units = c.args.program.now.units.items in
    let there = subst (λ (w : Bor TypedUnit). StandsAt (nodes_of w.now.unit.chunks) v r e) (one-unit units c.args.unit u c.unit.result s c.unit.ensures) h in
    let named : called_name_at v e ≡ Some c.in-Some.name = sym (c.called_name.ensures.placed v r there) ∙ c.in-Some.is in
    c.body_followed.ensures.body ∙ sym (ap (λ (o : Option ℕ). o >? body_followed (machine_view c.args.machine.now) c.args.unit (definitions (trees_in units))) named)
