use Rattle.std.proofs.Common.{◌≤◌, length, map, sym, subst, arith}
use Rattle.std.proofs.lemmas.Grind.{common_steps}
use Rattle.relevant.specs.BoundMembers.Bound.{BoundBefore}
use Rattle.relevant.proofs.BoundMembers.Binding.{before-none, before-next, before-all}
use Rattle.relevant.proofs.bound_members.functions.bound.Goals as goal
use Rattle.path_model.proofs.CheckerGraphs.Units.{functions-are}
use Rattle.path_model.specs.CheckerPrograms.Texts.{functions_in}
use Rattle.typed_unit.specs.Texts.{texts_of}
use Rattle.flow_graph.specs.Seen.{graph_in}
use Rattle.least_set.specs.Logs.{IsExactly}
use Rattle.call_graph.specs.OfPrograms.Definitions.{definitions, trees_in}

pub loop-number-init : goal.loop-number-init
loop-number-init c =
    λ k ts are. let gs = map (λ t. graph_in t.graph.now) c.args.tables.now in subst (λ l. IsExactly l (BoundBefore c.args.sources k ts gs 0)) (sym c.new-found.ensures.items) (before-none c.args.sources k ts gs)

pub loop-number-preserved : goal.loop-number-preserved
loop-number-preserved c =
    let at = c.loop-number in
    λ k ts are. before-next c.args.sources k ts c.args.tables.now are at.number at.found.items c.add_with_number.new.found.items (at.invariant k ts are) (c.in_ok-add_with_number.ensures k ts are)

pub returns : goal.returns
returns c =
    let at = c.loop-number in
    let units = c.args.program.now.units.items in
    let within : length (definitions (trees_in units)) ≤ at.number = grind (arith, common_steps) in
    let all : length (functions_in (texts_of units)) ≤ at.number = subst (λ ds. length ds ≤ at.number) (sym (functions-are units)) within in
    λ k are. before-all c.args.sources k (texts_of units) c.args.tables.now are at.number at.found.items all (at.invariant k (texts_of units) are)
