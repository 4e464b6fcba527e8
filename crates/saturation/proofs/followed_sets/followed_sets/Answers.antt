use Rattle.std.proofs.Common.{List, map, refl, sym, subst}
use Rattle.std.proofs.Math.Logic.{∥∥₁_elim}
use Rattle.flow_graph.specs.Seen.{graph_in}
use Rattle.function_tables.proofs.EngineTables.Places.{if-ok, apart-in}
use Rattle.function_tables.specs.EngineTables.Known.{checker_in, texts_in, graphs_in, objects_in}
use Rattle.least_set.specs.Logs.{IsExactly}
use Rattle.saturation.proofs.KnownSets.{bound-objects, followable}
use Rattle.saturation.specs.MetStates.{IsBoundWhereMet}
use Rattle.path_model.specs.CheckerGraphs.Members.{Member}
use Rattle.saturation.proofs.followed_sets.followed_sets.Goals as goal

pub returns : goal.returns
returns c =
    let e = c.args.engine.now in
    let t = e.tables in
    let k = checker_in t in
    let ts = texts_in t in
    let log = c.in_ok-edges.edges.keys in
    let bound = c.as_slice-2.result.now in
    if-ok _ _ c.known_sets.result
    (λ sets known. ∥∥₁_elim e.known squash₁ (λ a.
    let listed = c.in_ok-bound.ensures k ts (apart-in t) a.tables in
    let exact : IsExactly bound (IsBoundWhereMet k ts (graphs_in t) log) =
    subst (λ (l : List Member). IsExactly l (IsBoundWhereMet k ts (graphs_in t) log)) (sym c.as_slice-2.ensures.value) (subst (λ l. IsExactly c.in_ok-bound.bound.items (IsBoundWhereMet k ts (graphs_in t) l)) c.as_slice.ensures.keys listed) in
    ∥∥₁_elim (known k refl a.tables (bound-objects k ts (graphs_in t) log bound exact)) squash₁
    (followable k ts (graphs_in t) log bound exact a.tables.graphs (objects_in t) c.requires c.in_ok-edges.ensures.closed c.empty_edges_meet.ensures c.known_lists_are_enough.ensures (map (λ s. s.keys) sets.items))))
    c.known_sets.ensures

pub known_sets-requires : goal.known_sets-requires
known_sets-requires c = c.args.engine.now.tables.shallow
