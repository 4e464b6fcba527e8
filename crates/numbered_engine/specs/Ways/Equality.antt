-- Equal to `≡` of contexts, edges and rows of edges, by their parts.
-- Contexts, edges and rows of edges are equal where their parts are.
use Rattle.std.proofs.Common.{◌≡◌, nat_eq, Bool, true, ◌&&◌}
use Rattle.std.proofs.lemmas.Bool.{eqb-true}
use Rattle.least_set.specs.Ways.Same.{both}
use Rattle.row_flows.specs.Ways.Equality.{same_numbers}
use Rattle.row_flows.specs.contracts.tuples.NumberedTuplePartialEq.TheImpl.{eq-value as tuples_agree}
use Rattle.numbered_engine.specs.declared.edge_log.EdgeRow.{EdgeRow}
use Rattle.numbered_engine.specs.declared.edges.NumberedContext.{NumberedContext}
use Rattle.numbered_engine.specs.declared.edges.NumberedEdge.{NumberedEdge}

abbrev pub contexts_agree : NumberedContext → NumberedContext → Bool
contexts_agree x y = nat_eq x.function y.function && tuples_agree.it x.entry y.entry

pub same_context : (x y : NumberedContext) → contexts_agree x y ≡ true → x ≡ y
same_context x y h =
    let p = both (nat_eq x.function y.function) (tuples_agree.it x.entry y.entry) h in
    λ i. record { function = eqb-true x.function y.function p.0 i; entry = same_numbers x.entry y.entry p.1 i }

abbrev pub edges_agree : NumberedEdge → NumberedEdge → Bool
edges_agree x y = contexts_agree x.context y.context && (nat_eq x.block y.block && tuples_agree.it x.tuple y.tuple)

pub same_edge : (x y : NumberedEdge) → edges_agree x y ≡ true → x ≡ y
same_edge x y h =
    let p = both (contexts_agree x.context y.context) (nat_eq x.block y.block && tuples_agree.it x.tuple y.tuple) h in
    let q = both (nat_eq x.block y.block) (tuples_agree.it x.tuple y.tuple) p.1 in
    λ i. record { context = same_context x.context y.context p.0 i; block = eqb-true x.block y.block q.0 i; tuple = same_numbers x.tuple y.tuple q.1 i }

abbrev pub rows_agree : EdgeRow → EdgeRow → Bool
rows_agree x y = contexts_agree x.context y.context && tuples_agree.it x.tuple y.tuple

pub same_row : (x y : EdgeRow) → rows_agree x y ≡ true → x ≡ y
same_row x y h =
    let p = both (contexts_agree x.context y.context) (tuples_agree.it x.tuple y.tuple) h in
    λ i. record { context = same_context x.context y.context p.0 i; tuple = same_numbers x.tuple y.tuple p.1 i }
