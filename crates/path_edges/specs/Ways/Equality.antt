-- Equal to `≡` of contexts and edges, by their parts.
-- Contexts and edges are equal where their parts are.
use Rattle.std.proofs.Common.{◌≡◌, nat_eq, Bool, true, false, ◌&&◌, refl}
use Rattle.std.proofs.lemmas.Bool.{eqb-true}
use Rattle.std.specs.Bool.{beq}
use Rattle.least_set.specs.Ways.Same.{both}
use Rattle.path_edges.specs.declared.edges.Context.{Context}
use Rattle.path_edges.specs.declared.edges.Edge.{Edge}
use Rattle.state_tuples.specs.Ways.Equality.{same_tuple, tuples_agree}

-- WHETHER CONTEXTS AND EDGES AGREE, part by part, as `==` tests it
abbrev pub contexts_agree : Context → Context → Bool
contexts_agree x y = nat_eq x.function y.function && tuples_agree x.entry y.entry

abbrev pub edges_agree : Edge → Edge → Bool
edges_agree x y = contexts_agree x.context y.context && (beq x.is_root y.is_root && (nat_eq x.block y.block && tuples_agree x.tuple y.tuple))

-- those that agree are equal
pub same_context : (x y : Context) → contexts_agree x y ≡ true → x ≡ y
same_context x y h =
    let p = both (nat_eq x.function y.function) (tuples_agree x.entry y.entry) h in
    λ i. record { function = eqb-true x.function y.function p.0 i; entry = same_tuple x.entry y.entry p.1 i }

same_truth : (a b : Bool) → beq a b ≡ true → a ≡ b
same_truth true true h = refl
same_truth false false h = refl
same_truth true false h = cc
same_truth false true h = cc

pub same_edge : (x y : Edge) → edges_agree x y ≡ true → x ≡ y
same_edge x y h =
    let p = both (contexts_agree x.context y.context) (beq x.is_root y.is_root && (nat_eq x.block y.block && tuples_agree x.tuple y.tuple)) h in
    let q = both (beq x.is_root y.is_root) (nat_eq x.block y.block && tuples_agree x.tuple y.tuple) p.1 in
    let r = both (nat_eq x.block y.block) (tuples_agree x.tuple y.tuple) q.1 in
    λ i. record {
      context = same_context x.context y.context p.0 i;
      is_root = same_truth x.is_root y.is_root q.0 i;
      block = eqb-true x.block y.block r.0 i;
      tuple = same_tuple x.tuple y.tuple r.1 i;
    }
