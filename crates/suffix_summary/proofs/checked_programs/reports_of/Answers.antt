use Rattle.std.proofs.Common.{◌≡◌, ◌∙◌, ℕ, List, [], Some, length, map, replicate, slice_get, sym, ap, subst}
use Rattle.std.proofs.Math.Logic.{∥∥₁_elim, ∥∥₁_map}
use Rattle.block_flows.specs.TupleFlows.Moved.{AreObjects}
use Rattle.c_objects.specs.Objects.{Object}
use Rattle.flow_graph.specs.CPaths.Building.{Graph}
use Rattle.flow_graph.specs.Seen.{graph_in}
use Rattle.function_tables.specs.declared.table.FunctionTable.{FunctionTable}
use Rattle.block_flows.specs.Masks.{AreEnough}
use Rattle.path_model.proofs.CheckerGraphs.Units.{functions-are}
use Rattle.typed_unit.specs.Texts.{texts_of}
use Rattle.suffix_summary.proofs.AllKnown.{all-known}
use Rattle.known_objects.proofs.EmptySets.{count-none, have-none, plain-none}
use Rattle.ordered_reports.specs.Reporting.{checker_of}
use Rattle.suffix_summary.proofs.checked_programs.reports_of.Goals as goal

pub invariant_of-first : goal.invariant_of-first
invariant_of-first c =
    let units = c.args.program.now.units.items in
    let n = c.count.result in
    let sets = map (λ os. os.keys) c.as_slice-2.result.now in
    let empty : sets ≡ replicate n [] = ap (map (λ os. os.keys)) c.as_slice-2.ensures.value ∙ c.in_ok-none.ensures in
    record {
      known = all-known _ c.in_ok-functions.functions.items c.in_ok-roots.roots.items c.as_slice.ensures.value c.as_slice-3.ensures.value c.in_ok-functions.ensures.tables c.in_ok-roots.ensures.exact
          (count-none n sets empty ∙ c.count.ensures ∙ ap length (sym (functions-are units)))
          (plain-none c.args.depth sets (have-none n sets empty));
    }

pub followed_sets-requires : goal.followed_sets-requires
followed_sets-requires c =
    have-none c.count.result (map (λ os. os.keys) c.as_slice-2.result.now) (ap (map (λ os. os.keys)) c.as_slice-2.ensures.value ∙ c.in_ok-none.ensures)

pub invariant_of-known : goal.invariant_of-known
invariant_of-known c =
    let units = c.args.program.now.units.items in
    let same = ap (map (λ os. os.keys)) c.as_slice-5.ensures.value in
    record {
      known = ∥∥₁_elim c.in_ok-followed.ensures squash₁ (λ f.
          all-known _ c.in_ok-functions.functions.items c.in_ok-roots.roots.items c.as_slice-4.ensures.value c.as_slice-6.ensures.value c.in_ok-functions.ensures.tables c.in_ok-roots.ensures.exact
          (ap length same ∙ f.count)
          (subst (λ (l : List (List Object)). (n : ℕ) (os : List Object) → slice_get l n ≡ Some os → AreObjects c.args.depth os) (sym same) f.plain));
    }

pub reported-requires : goal.reported-requires
reported-requires c =
    let k = checker_of c.args.number c.args.machine.now c.args.names.now c.args.depth in
    let ts = texts_of c.args.program.now.units.items in
    let gs = map (λ (t : FunctionTable). graph_in t.graph.now) c.as_slice-4.result.now in
    let same = ap (map (λ (t : FunctionTable). graph_in t.graph.now)) (c.as_slice.ensures.value ∙ sym c.as_slice-4.ensures.value) in
    ∥∥₁_map c.in_ok-followed.ensures (λ f.
    subst (AreEnough k ts gs) (sym (ap (map (λ os. os.keys)) c.as_slice-5.ensures.value)) (subst (λ (l : List Graph). AreEnough k ts l (map (λ os. os.keys) c.in_ok-followed.followed.items)) same f.enough))
