-- A list of which each value stands for one of another.
use Rattle.std.proofs.Common.{◌≡◌, ℕ, zero, suc, nat_eq, Bool, true, false, ◌&&◌, ◌||◌, if◌then◌else◌, List, [], ◌∷◌, ◌++◌, length, map, slice_get, refl, sym, ap, ◌∙◌, subst}
use Rattle.std.specs.List.{list_any, AllByRecursion, IsDistinct}
use Rattle.std.specs.Option.{option_map}
use Rattle.entry_log.specs.Entries.{same_entry, has_entry}
use Rattle.indexmap.specs.IndexSet.{insert_key}
use Rattle.row_flows.specs.contracts.tuples.NumberedTuplePartialEq.TheImpl.{eq-value as tuples_agree}
use Rattle.numbered_engine.specs.EdgeLists.{edge_at, edges_of, row_in}
use Rattle.numbered_engine.specs.Ways.Equality.{contexts_agree, edges_agree, rows_agree}
use Rattle.numbered_engine.specs.declared.edge_log.EdgeRow.{EdgeRow}
use Rattle.numbered_engine.specs.declared.edges.NumberedEdge.{NumberedEdge}

module _ {A B : Type 0} (f : A → B) where
  pub mapped_length : (xs : List A) → length (map f xs) ≡ length xs
  mapped_length [] = refl
  mapped_length (x ∷ xs) = ap suc (mapped_length xs)

  pub mapped_at : (xs : List A) (i : ℕ) → slice_get (map f xs) i ≡ option_map f (slice_get xs i)
  mapped_at [] i = refl
  mapped_at (x ∷ xs) zero = refl
  mapped_at (x ∷ xs) (suc i) = mapped_at xs i

  mapped_append : (xs ys : List A) → map f (xs ++ ys) ≡ map f xs ++ map f ys
  mapped_append [] ys = refl
  mapped_append (x ∷ xs) ys = ap (λ l. f x ∷ l) (mapped_append xs ys)

  module _ (eq : A → A → Bool) (other : B → B → Bool) (agree : (x y : A) → other (f x) (f y) ≡ eq x y) where
    pub mapped_any : (x : A) (ys : List A) → list_any (other (f x)) (map f ys) ≡ list_any (eq x) ys
    mapped_any x [] = refl
    mapped_any x (y ∷ ys) = ap (λ b. b || list_any (other (f x)) (map f ys)) (agree x y) ∙ ap (λ b. eq x y || b) (mapped_any x ys)

    unlike_all : (x : A) (ys : List A) → AllByRecursion (λ y. eq x y ≡ false) ys → AllByRecursion (λ y. other (f x) y ≡ false) (map f ys)
    unlike_all x [] h = tt
    unlike_all x (y ∷ ys) h = (agree x y ∙ h.0, unlike_all x ys h.1)

    pub mapped_distinct : (xs : List A) → IsDistinct eq xs → IsDistinct other (map f xs)
    unfolding IsDistinct
    mapped_distinct [] h = tt
    mapped_distinct (x ∷ xs) h = (unlike_all x xs h.0, mapped_distinct xs h.1)

    pub mapped_insert : (xs : List A) (x : A) → map f (insert_key eq xs x) ≡ insert_key other (map f xs) (f x)
    mapped_insert xs x = by (list_any (eq x) xs) refl
      where
        by : (b : Bool) → list_any (eq x) xs ≡ b → map f (insert_key eq xs x) ≡ insert_key other (map f xs) (f x)
        by true e = ap (λ b. map f (if b then xs else xs ++ x ∷ [])) e ∙ sym (ap (λ b. if b then map f xs else map f xs ++ f x ∷ []) (mapped_any x xs ∙ e))
        by false e = ap (λ b. map f (if b then xs else xs ++ x ∷ [])) e ∙ mapped_append xs (x ∷ []) ∙ sym (ap (λ b. if b then map f xs else map f xs ++ f x ∷ []) (mapped_any x xs ∙ e))

-- edges are equal where their rows and their blocks are
same_edges : (x y : EdgeRow × ℕ) → edges_agree (edge_at x) (edge_at y) ≡ same_entry rows_agree x y
same_edges x y = by (contexts_agree x.0.context y.0.context) (nat_eq x.1 y.1) (tuples_agree.it x.0.tuple y.0.tuple)
  where
    by : (c b t : Bool) → c && (b && t) ≡ (c && t) && b
    by false b t = refl
    by true true true = refl
    by true true false = refl
    by true false true = refl
    by true false false = refl

module _ (es : List (EdgeRow × ℕ)) where
  pub distinct_edges : IsDistinct (same_entry rows_agree) es → IsDistinct edges_agree (edges_of es)
  distinct_edges = mapped_distinct edge_at (same_entry rows_agree) edges_agree same_edges es

  module _ (e : NumberedEdge) (row : EdgeRow) (is : row ≡ row_in e) where
    -- an edge is there where its entry is
    pub edge_there : list_any (edges_agree e) (edges_of es) ≡ has_entry rows_agree es (row, e.block)
    edge_there = subst (λ r. list_any (edges_agree e) (edges_of es) ≡ has_entry rows_agree es (r, e.block)) (sym is) (mapped_any edge_at (same_entry rows_agree) edges_agree same_edges (row_in e, e.block) es)

    pub edge_inserted : (new : List (EdgeRow × ℕ)) → new ≡ insert_key (same_entry rows_agree) es (row, e.block) → edges_of new ≡ insert_key edges_agree (edges_of es) e
    edge_inserted new n =
        ap edges_of n
        ∙ subst (λ r. edges_of (insert_key (same_entry rows_agree) es (r, e.block)) ≡ insert_key edges_agree (edges_of es) e) (sym is) (mapped_insert edge_at (same_entry rows_agree) edges_agree same_edges es (row_in e, e.block))
