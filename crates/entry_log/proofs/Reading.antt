-- The entries that places stand for.
use Rattle.std.proofs.Common.{◌≡◌, ℕ, ◌<◌, zero, suc, arith, Bool, true, false, ◌&&◌, ◌||◌, nat_eq, List, [], ◌∷◌, ◌++◌, length, get_or, Option, Some, None, position, slice_get, refl, sym, ap, ◌∙◌, subst, inl, inr, eq-eqb, ne_eqb}
use Rattle.std.specs.Cmp.{IsEquivalence}
use Rattle.std.specs.List.{list_any, AllByRecursion, IsDistinct}
use Rattle.std.proofs.lemmas.Bool.{cases_order, or_parts}
use Rattle.std.proofs.lemmas.List.Quantifiers.{position-Some}
use Rattle.std.proofs.lemmas.Option.{none-some, slice_get-get_or, slice_get_within, get_or_from_slice_get, same_Some}
use Rattle.std.proofs.lemmas.Map.Keys.{apart_from_distinct}
use Rattle.least_set.proofs.Growing.{same_place as same_at}
use Rattle.entry_log.specs.Entries.{same_entry}
use Rattle.entry_log.specs.Rows.{before, entries_at, is_at}
use Rattle.entry_log.specs.declared.entries.Place.{Place}

-- places of rows that have a key
abbrev pub Within : {K : Type 0} → List K → List Place → Type 0
Within keys = AllByRecursion (λ (p : Place). p.row < length keys)

pub there : {X : Type 0} (xs : List X) (i : ℕ) → i < length xs → (x : X) × (slice_get xs i ≡ Some x)
there [] i h = absurd (omega arith)
there (x ∷ xs) zero h = (x, refl)
there (x ∷ xs) (suc i) h = there xs i (omega arith)

module _ {K : Type 0} where
  -- one more place
  pub entries_push : (keys : List K) (ps : List Place) (p : Place) (k : K) → slice_get keys p.row ≡ Some k → entries_at keys (ps ++ p ∷ []) ≡ entries_at keys ps ++ (k, p.block) ∷ []
  entries_push keys [] p k e = ap (λ o. before o p.block []) e
  entries_push keys (q ∷ ps) p k e = ap (before (slice_get keys q.row) q.block) (entries_push keys ps p k e) ∙ by (slice_get keys q.row)
    where
      by : (o : Option K) → before o q.block (entries_at keys ps ++ (k, p.block) ∷ []) ≡ before o q.block (entries_at keys ps) ++ (k, p.block) ∷ []
      by None = refl
      by (Some x) = refl

  -- one more key
  pub entries_more : (keys : List K) (k : K) (ps : List Place) → Within keys ps → entries_at (keys ++ k ∷ []) ps ≡ entries_at keys ps
  entries_more keys k [] h = refl
  entries_more keys k (p ∷ ps) h = ap (λ o. before o p.block (entries_at (keys ++ k ∷ []) ps)) (same_at keys (k ∷ []) p.row h.0) ∙ ap (before (slice_get keys p.row) p.block) (entries_more keys k ps h.1)

  pub entries_length : (keys : List K) (ps : List Place) → Within keys ps → length (entries_at keys ps) ≡ length ps
  entries_length keys [] h = refl
  entries_length keys (p ∷ ps) h = let x = there keys p.row h.0 in ap (λ o. length (before o p.block (entries_at keys ps))) x.1 ∙ ap suc (entries_length keys ps h.1)

  -- the entry at an index
  pub entry_at : (keys : List K) (ps : List Place) (i : ℕ) (p : Place) (k : K) → Within keys ps → slice_get ps i ≡ Some p → slice_get keys p.row ≡ Some k → slice_get (entries_at keys ps) i ≡ Some (k, p.block)
  entry_at keys [] i p k h e f = absurd (omega (arith, slice_get_within {A = Place} [] i p e))
  entry_at keys (q ∷ ps) zero p k h e f =
      let same = same_Some q p e in
      let has_key : slice_get keys q.row ≡ Some k = ap (λ (r : Place). slice_get keys r.row) same ∙ f in
      subst (λ (r : Place). slice_get (entries_at keys (q ∷ ps)) zero ≡ Some (k, r.block)) same (ap (λ o. slice_get (before o q.block (entries_at keys ps)) zero) has_key)
  entry_at keys (q ∷ ps) (suc i) p k h e f =
      let x = there keys q.row h.0 in
      ap (λ o. slice_get (before o q.block (entries_at keys ps)) (suc i)) x.1 ∙ entry_at keys ps i p k h.1 e f

  -- behind the last one there is none
  pub no_entry_at : (keys : List K) (ps : List Place) (i : ℕ) → Within keys ps → slice_get ps i ≡ None → slice_get (entries_at keys ps) i ≡ None
  no_entry_at keys [] i h e = refl
  no_entry_at keys (q ∷ ps) zero h e = absurd (none-some q (sym e))
  no_entry_at keys (q ∷ ps) (suc i) h e = let x = there keys q.row h.0 in ap (λ o. slice_get (before o q.block (entries_at keys ps)) (suc i)) x.1 ∙ no_entry_at keys ps i h.1 e

-- the key that was found
pub key_at : {K : Type 0} (eq : K → K → Bool) → ((x y : K) → eq x y ≡ true → x ≡ y) → (keys : List K) (row : ℕ) (k : K) → position (eq k) keys ≡ Some row → slice_get keys row ≡ Some k
key_at eq same keys row k e =
    let p = position-Some (eq k) keys row k e in
    slice_get-get_or keys row k p.0 ∙ ap Some (sym (same k (get_or keys row k) p.1))

-- keys that differ
module _ {K : Type 0} (eq : K → K → Bool) (laws : IsEquivalence eq) (keys : List K) (distinct : IsDistinct eq keys) where
  apart : (i j : ℕ) (x y : K) → i < j → slice_get keys i ≡ Some x → slice_get keys j ≡ Some y → eq x y ≡ false
  apart i j x y h e f =
      ap (λ z. eq z y) (sym (get_or_from_slice_get keys i x x e)) ∙ ap (eq (get_or keys i x)) (sym (get_or_from_slice_get keys j y x f))
      ∙ apart_from_distinct eq keys i j x distinct h (slice_get_within keys j y f)

  -- keys are equal where they are that of one row
  pub same_row : (i j : ℕ) (x y : K) → slice_get keys i ≡ Some x → slice_get keys j ≡ Some y → eq x y ≡ nat_eq i j
  same_row i j x y e f = elim (cases_order i j) [
    | inl q ↦ ap (eq x) (same_Some y x (sym f ∙ ap (slice_get keys) (sym q) ∙ e)) ∙ laws.refl x ∙ sym (eq-eqb i j q)
    | inr o ↦ elim o [
      | inl h ↦ apart i j x y h e f ∙ sym (ne_eqb i j (λ q. omega (arith, h, q)))
      | inr h ↦ laws.symm x y ∙ apart j i y x h f e ∙ sym (ne_eqb i j (λ q. omega (arith, h, q)))
    ]
  ]

  -- an entry is there where its place is
  pub has_where_placed : (row : ℕ) (k : K) (block : ℕ) → slice_get keys row ≡ Some k → (ps : List Place) → Within keys ps
      → list_any (same_entry eq (k, block)) (entries_at keys ps) ≡ list_any (is_at row block) ps
  has_where_placed row k block e [] h = refl
  has_where_placed row k block e (p ∷ ps) h =
      let x = there keys p.row h.0 in
      ap (λ o. list_any (same_entry eq (k, block)) (before o p.block (entries_at keys ps))) x.1
      ∙ ap (λ t. (t && nat_eq block p.block) || list_any (same_entry eq (k, block)) (entries_at keys ps)) (same_row row p.row k x.0 e x.1)
      ∙ ap (λ t. is_at row block p || t) (has_where_placed row k block e ps h.1)

-- a list of which nothing passes
pub unlike : {K : Type 0} (test : K → Bool) (ks : List K) (i : ℕ) (x : K) → list_any test ks ≡ false → slice_get ks i ≡ Some x → test x ≡ false
unlike {K = K} test [] i x n e = absurd (omega (arith, slice_get_within {A = K} [] i x e))
unlike test (y ∷ ks) zero x n e = ap test (sym (same_Some y x e)) ∙ (or_parts (test y) (list_any test ks) n).0
unlike test (y ∷ ks) (suc i) x n e = unlike test ks i x (or_parts (test y) (list_any test ks) n).1 e

-- an entry isn't there where its key isn't
pub not_without_key : {K : Type 0} (eq : K → K → Bool) (keys : List K) (k : K) (block : ℕ) → list_any (eq k) keys ≡ false → (ps : List Place) → Within keys ps
    → list_any (same_entry eq (k, block)) (entries_at keys ps) ≡ false
not_without_key eq keys k block none [] h = refl
not_without_key eq keys k block none (p ∷ ps) h =
    let x = there keys p.row h.0 in
    ap (λ o. list_any (same_entry eq (k, block)) (before o p.block (entries_at keys ps))) x.1
    ∙ ap (λ t. (t && nat_eq block p.block) || list_any (same_entry eq (k, block)) (entries_at keys ps)) (unlike (eq k) keys p.row x.0 none x.1)
    ∙ not_without_key eq keys k block none ps h.1
