-- One more element of a list in order joins those that were kept of the elements before it.
use Rattle.std.proofs.Common.{◌≡◌, ◌⊎◌, inl, inr, ◌-◌, ◌<◌, ◌≤◌, ℕ, List, [], ◌∷◌, ◌++◌, length, get_or, slice_get, Bool, true, false, cond, Some, None, refl, sym, ap, subst, ◌∙◌, arith, ltb, ltb-true, ltb-false}
use Rattle.std.proofs.lemmas.Cmp.{tied_itself}
use Rattle.std.proofs.lemmas.List.{get_or_append_left, length-append}
use Rattle.std.proofs.lemmas.Option.{get_or_from_slice_get, slice_get_cases, slice_get_read}
use Rattle.std.proofs.Math.Seq.{get_or-append_seam}
use Rattle.std.proofs.lemmas.List.Elements.{Contains-append_left, Contains-push, Contains-push_cases}
use Rattle.std.proofs.lemmas.List.Quantifiers.{all_pairs_push}
use Rattle.std.proofs.lemmas.List.Sorted.{Contains-permutation, IsPermutation-sym, ranks_by, sorted_far}
use Rattle.std.proofs.lemmas.Result.{IfOk-weaker}
use Rattle.std.specs.Cmp.{IsTotalOrder}
use Rattle.std.specs.List.{Contains, AllPairs}
use Rattle.std.specs.List.Sorted.{IsPermutation, IsSorted}
use Rattle.std.specs.Prelude.{IfOk, Result}
use Rattle.std.specs.Ordering.{is_lt, is_eq, ordering_reverse}
use Rattle.std.specs.declared.cmp.Ordering.{Ordering}
use Rattle.std.specs.declared.cmp.Ordering.TheVariants.{Less, Equal, Greater}
use Rattle.report_model.specs.ReportLists.Repeats.{HasEqual, AgreeWhereEqual, IsEachOnce, is_equal, with_new}

only_less : (p q : Ordering) → q ≡ ordering_reverse p → is_lt p ≡ false → is_eq q ≡ false → q ≡ Less
only_less Less q e h k = cc
only_less Equal q e h k = let f = ap is_eq e in cc
only_less Greater q e h k = e

below_or : (i j : ℕ) → (i < j) ⊎ (j ≤ i)
below_or i j = by (ltb i j) refl
  where
    by : (b : Bool) → ltb i j ≡ b → (i < j) ⊎ (j ≤ i)
    by true e = inl (ltb-true i j e)
    by false e = inr (ltb-false i j e)

equal_is : (o : Ordering) → is_eq o ≡ true → o ≡ Equal
equal_is Less h = cc
equal_is Equal h = refl
equal_is Greater h = cc

module _ {X : Type 0} (R : X → X → Ordering) (o : IsTotalOrder R) where
  -- no element before one of a list in order is above it
  not_above : (before rest : List X) (x y : X) → IsSorted R (before ++ x ∷ rest) → Contains before y → is_lt (R x y) ≡ false
  not_above before rest x y up c =
      let size = length-append before (x ∷ rest) in
      let far = sorted_far (λ a b. is_lt (R a b)) (ranks_by o (λ a. a)) (before ++ x ∷ rest) up c.0 (length before) y (omega (arith, c.1)) (omega arith) in
      let first : get_or (before ++ x ∷ rest) c.0 y ≡ y = get_or_append_left before (x ∷ rest) y c.0 c.1 ∙ c.2 in
      let second : get_or (before ++ x ∷ rest) (length before) y ≡ x = get_or-append_seam before x rest y in
      subst (λ a. is_lt (R a y) ≡ false) second (subst (λ b. is_lt (R (get_or (before ++ x ∷ rest) (length before) y) b) ≡ false) first far)

  -- it compares `Equal` to the last one: nothing joins
  again : (given kept : List X) (x y : X) → IsEachOnce R given kept → Contains kept y → R y x ≡ Equal → IsEachOnce R (given ++ x ∷ []) kept
  again given kept x y h c e = record {
    ascending = h.ascending;
    real = λ z k. Contains-append_left given (x ∷ []) z (h.real z k);
    whole = λ z k. by z (Contains-push_cases given x z k);
  }
    where
      by : (z : X) → Contains given z ⊎ (x ≡ z) → HasEqual R kept z
      by z (inl k) = h.whole z k
      by z (inr same) = (y, c, subst (λ a. R y a ≡ Equal) same e)

  -- it is above all
  joins : (given kept : List X) (x : X) → IsEachOnce R given kept → ((k : ℕ) (d : X) → k < length kept → R (get_or kept k d) x ≡ Less) → IsEachOnce R (given ++ x ∷ []) (kept ++ x ∷ [])
  joins given kept x h above = record {
    ascending = all_pairs_push (λ a b. R a b ≡ Less) kept x h.ascending above;
    real = λ z k. real_by z (Contains-push_cases kept x z k);
    whole = λ z k. by z (Contains-push_cases given x z k);
  }
    where
      real_by : (z : X) → Contains kept z ⊎ (x ≡ z) → Contains (given ++ x ∷ []) z
      real_by z (inl k) = Contains-append_left given (x ∷ []) z (h.real z k)
      real_by z (inr same) = subst (Contains (given ++ x ∷ [])) same (Contains-push given x)

      by : (z : X) → Contains given z ⊎ (x ≡ z) → HasEqual R (kept ++ x ∷ []) z
      by z (inl k) = let old = h.whole z k in (old.0, Contains-append_left kept (x ∷ []) old.0 old.1, old.2)
      by z (inr same) = (x, Contains-push kept x, subst (λ a. R x a ≡ Equal) same (tied_itself o x))

  -- all of a list that ascends are below what its last one is below
  below_by_last : (kept : List X) (last x : X) → AllPairs (λ a b. R a b ≡ Less) kept → ((d : X) → get_or kept (length kept - 1) d ≡ last) → R last x ≡ Less → (k : ℕ) (d : X) → k < length kept → R (get_or kept k d) x ≡ Less
  below_by_last kept last x up is less k d m = by (below_or k (length kept - 1))
    where
      by : (k < length kept - 1) ⊎ (length kept - 1 ≤ k) → R (get_or kept k d) x ≡ Less
      by (inl before) = o.trans (get_or kept k d) last x (subst (λ b. R (get_or kept k d) b ≡ Less) (is d) (up k (length kept - 1) d before (omega arith))) less
      by (inr at) =
          let same : k ≡ length kept - 1 = omega arith in
          let here : get_or kept k d ≡ last = ap (λ n. get_or kept n d) same ∙ is d in
          subst (λ a. R a x ≡ Less) (sym here) less

  next_by : (given kept rest : List X) (x : X) → IsSorted R (given ++ x ∷ rest) → IsEachOnce R given kept → (last : X) → length kept - 1 < length kept → get_or kept (length kept - 1) last ≡ last → IsEachOnce R (given ++ x ∷ []) (cond (is_eq (R last x)) kept (kept ++ x ∷ []))
  next_by given kept rest x up h last m e = by (is_eq (R last x)) refl
    where
      there : Contains kept last
      there = (length kept - 1, m, e)

      here : (d : X) → get_or kept (length kept - 1) d ≡ last
      here d = get_or_from_slice_get kept (length kept - 1) last d (slice_get_read kept (length kept) (length kept - 1) last refl m (sym e))

      by : (b : Bool) → is_eq (R last x) ≡ b → IsEachOnce R (given ++ x ∷ []) (cond b kept (kept ++ x ∷ []))
      by true q = again given kept x last h there (equal_is _ q)
      by false q = joins given kept x h (below_by_last kept last x h.ascending here (only_less (R x last) (R last x) (o.antisymm last x) (not_above given rest x last up (h.real last there)) q))

  -- ONE MORE
  pub next : (given kept rest : List X) (x : X) → IsSorted R (given ++ x ∷ rest) → IsEachOnce R given kept → IsEachOnce R (given ++ x ∷ []) (with_new R kept x)
  next given kept rest x up h = by (slice_get_cases kept (length kept - 1)).1
    where
      by : ((last : X) × (length kept - 1 < length kept) × (slice_get kept (length kept - 1) ≡ Some last) × (get_or kept (length kept - 1) last ≡ last)) ⊎ ((length kept ≤ length kept - 1) × (slice_get kept (length kept - 1) ≡ None)) → IsEachOnce R (given ++ x ∷ []) (with_new R kept x)
      by (inl w) = subst (λ s. IsEachOnce R (given ++ x ∷ []) (cond (is_equal R x s) kept (kept ++ x ∷ []))) (sym w.2) (next_by given kept rest x up h w.0 w.1 w.3)
      by (inr w) = subst (λ s. IsEachOnce R (given ++ x ∷ []) (cond (is_equal R x s) kept (kept ++ x ∷ []))) (sym w.1) (joins given kept x h (λ k d m. absurd (omega (arith, w.0))))

  -- where elements that compare `Equal` are the same, all are there
  pub all_there : (given kept : List X) → IsEachOnce R given kept → AgreeWhereEqual R given → (x : X) → Contains given x → Contains kept x
  all_there given kept h agree x c = let e = h.whole x c in subst (Contains kept) (agree e.0 x (h.real e.0 e.1) c e.2) e.1

  -- the given elements may stand in any order
  pub reordered : {V E : Type 0} (r : Result V E) (items : V → List X) (given ordered : List X) → IsPermutation given ordered → IfOk r (λ kept. IsEachOnce R ordered (items kept)) → IfOk r (λ kept. IsEachOnce R given (items kept))
  reordered r items given ordered p h =
      let back = IsPermutation-sym given ordered p in
      IfOk-weaker r (λ kept. IsEachOnce R ordered (items kept)) (λ kept. IsEachOnce R given (items kept))
      (λ kept e. record { ascending = e.ascending; real = λ x k. Contains-permutation ordered given x back (e.real x k); whole = λ x k. e.whole x (Contains-permutation given ordered x p k) }) h
