-- Calls are filed one after the other.
use Rattle.std.proofs.Common.{◌≡◌, inl, inr, ℕ, ◌+◌, ◌<◌, ◌≤◌, List, [], ◌∷◌, ◌++◌, Vec, Contains, length, take, get_or, Bool, true, false, nat_eq, cond, arith, refl, sym, ap, ◌∙◌, subst}
use Rattle.std.proofs.lemmas.Bool.{eqb-true, eq-eqb}
use Rattle.std.proofs.lemmas.List.{take_more, take_all, length-take-le}
use Rattle.std.proofs.lemmas.List.Elements.{Contains-append_left, Contains-append_right, Contains-append_cases, Contains-push, Contains-push_cases}
use Rattle.std.proofs.lemmas.Option.{slice_get_within}
use Rattle.least_set.specs.Logs.{IsExactly}
use Rattle.least_set.proofs.Growing.{nothing, same_place}
use Rattle.relevant.proofs.ProgramRows.Lists.{placed, placed-last}
use Rattle.relevant.specs.ProgramRows.Filing.{at, one_if, Meets, MeetsAt, IsFiled}
use Rattle.relevant.specs.declared.relevant_objects.rows.FollowedCall.{FollowedCall}

one-there : (m n p j : ℕ) → Contains (one_if m n p) j → (m ≡ n) × (p ≡ j)
one-there m n p j h = by (nat_eq m n) refl h
  where
    by : (b : Bool) → nat_eq m n ≡ b → Contains (cond b (p ∷ []) []) j → (m ≡ n) × (p ≡ j)
    by true e h = (eqb-true m n e, elim (Contains-push_cases [] p j h) [ inl o ↦ absurd (nothing j o) | inr q ↦ q ])
    by false e h = absurd (nothing j h)

there-one : (m n p : ℕ) → m ≡ n → Contains (one_if m n p) p
there-one m n p e = subst (λ b. Contains (cond b (p ∷ []) []) p) (sym (eq-eqb m n e)) (Contains-push [] p)

module _ (xs : List FollowedCall) (x : FollowedCall) (n : ℕ) where
  abbrev more : List FollowedCall
  more = xs ++ (x ∷ [])

  before-meets : (j : ℕ) → MeetsAt xs n j → MeetsAt more n j
  before-meets j m = (m.0, same_place xs (x ∷ []) j (slice_get_within xs j m.0 m.1) ∙ m.1, m.2)

  last-meets : (j : ℕ) → length xs ≡ j → Meets n x → MeetsAt more n j
  last-meets j e m = subst (MeetsAt more n) e (x, placed-last xs x, m)

  -- one more call is filed
  pub filed-push : (ps : List ℕ) → IsExactly ps (MeetsAt xs n) → IsExactly ((ps ++ one_if x.caller n (length xs)) ++ one_if x.callee n (length xs)) (MeetsAt more n)
  filed-push ps s = (
    λ j h. elim (Contains-append_cases (ps ++ from) into j h) [
      | inl o ↦ elim (Contains-append_cases ps from j o) [
        | inl q ↦ before-meets j (s.0 j q)
        | inr q ↦ let t = one-there x.caller n (length xs) j q in last-meets j t.1 (inl t.0)
      ]
      | inr q ↦ let t = one-there x.callee n (length xs) j q in last-meets j t.1 (inr t.0)
    ],
    λ j m. elim (placed xs x j m.0 m.1) [
      | inl o ↦ Contains-append_left (ps ++ from) into j (Contains-append_left ps from j (s.1 j (m.0, o, m.2)))
      | inr e ↦ subst (Contains all) e.0 (elim m.2 [
        | inl q ↦ Contains-append_left (ps ++ from) into (length xs) (Contains-append_right ps from (length xs) (there-one x.caller n (length xs) (ap (λ (k : FollowedCall). k.caller) e.1 ∙ q)))
        | inr q ↦ Contains-append_right (ps ++ from) into (length xs) (there-one x.callee n (length xs) (ap (λ (k : FollowedCall). k.callee) e.1 ∙ q))
      ])
    ],
  )
    where
      from : List ℕ
      from = one_if x.caller n (length xs)

      into : List ℕ
      into = one_if x.callee n (length xs)

      all : List ℕ
      all = (ps ++ from) ++ into

-- at first none is
pub none-filed : {A : Type 0} (count : ℕ) (lists : List (Vec ℕ A)) → ((n : ℕ) → at lists n ≡ []) → IsFiled [] count lists
none-filed count lists e n l = (λ j h. absurd (nothing j (subst (λ (ps : List ℕ). Contains ps j) (e n) h)), λ j m. let gone = m.1 in cc)

module _ {A : Type 0} (calls : List FollowedCall) (count : ℕ) where
  -- so at the place i of a list of calls that is gone through
  pub filed-next : (i : ℕ) (k : FollowedCall) (old new : List (Vec ℕ A)) → i < length calls → k ≡ get_or calls i k → length old ≡ count
      → ((n : ℕ) → n < length old → at new n ≡ (at old n ++ one_if k.caller n i) ++ one_if k.callee n i) → IsFiled (take i calls) count old → IsFiled (take (i + 1) calls) count new
  filed-next i k old new within is long put all n l =
      let long-take : length (take i calls) ≡ i = length-take-le i calls (omega (arith, within)) in
      let more : take (i + 1) calls ≡ take i calls ++ (k ∷ []) = take_more calls i k within ∙ ap (λ (x : FollowedCall). take i calls ++ (x ∷ [])) (sym is) in
      let one = filed-push (take i calls) k n (at old n) (all n l) in
      subst (λ (xs : List FollowedCall). IsExactly (at new n) (MeetsAt xs n)) (sym more)
      (subst (λ (ps : List ℕ). IsExactly ps (MeetsAt (take i calls ++ (k ∷ [])) n)) (sym (put n (subst (λ c. n < c) (sym long) l)))
      (subst (λ (p : ℕ). IsExactly ((at old n ++ one_if k.caller n p) ++ one_if k.callee n p) (MeetsAt (take i calls ++ (k ∷ [])) n)) long-take one))

  -- all were filed
  pub all-filed : (i : ℕ) (lists : List (Vec ℕ A)) → length calls ≤ i → IsFiled (take i calls) count lists → IsFiled calls count lists
  all-filed i lists l h = subst (λ (xs : List FollowedCall). IsFiled xs count lists) (take_all i calls l) h
