use Rattle.std.proofs.Common.{Contains, subst}
use Rattle.std.proofs.Math.Logic.{∥∥₁_elim}
use Rattle.function_tables.proofs.EngineTables.Places.{if-ok, apart-in}
use Rattle.function_tables.specs.EngineTables.Known.{checker_in, texts_in, graphs_in}
use Rattle.numbered_engine.specs.Rules.{FollowsFrom, IsDerived}
use Rattle.numbered_engine.specs.declared.edges.NumberedEdge.{NumberedEdge}
use Rattle.numbered_engine.specs.declared.program.ProgramRows.{ProgramRows}
use Rattle.suffix_summary.proofs.KnownEdges.{edges-meet}
use Rattle.suffix_summary.proofs.KnownSets.{enough-where-met}
use Rattle.suffix_summary.proofs.followed_sets.bound_by_edges.Goals as goal

pub returns : goal.returns
returns c =
    let t = c.args.known.now.tables in
    let k = checker_in t in
    let ts = texts_in t in
    let gs = graphs_in t in
    let p = c.in_ok-rows.rows in
    let log = c.in_ok-log.log.keys in
    let closed = subst (λ (q : ProgramRows). (e : NumberedEdge) → FollowsFrom q log e → Contains log e) c.new-engine.ensures c.in_ok-log.ensures.closed in
    let only = subst (λ (q : ProgramRows). (e : NumberedEdge) → Contains log e → IsDerived q e) c.new-engine.ensures c.in_ok-log.ensures.only in
    if-ok _ _ c.bound_where_met.result
    (λ bound listed. ∥∥₁_elim c.args.known.now.known squash₁ (λ a. ∥∥₁_elim (c.in_ok-rows.ensures a) squash₁ (λ s.
    ∣ enough-where-met k ts gs p log bound.items (listed k ts (apart-in t) a.tables) a.tables.graphs (edges-meet t p log closed only a s c.requires) c.known_lists_are_enough.ensures ∣₁)))
    c.bound_where_met.ensures
