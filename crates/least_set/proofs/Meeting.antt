-- What waiters and ends give together, while the log grows.
use Rattle.std.proofs.Common.{◌≡◌, ℕ, ◌<◌, List, [], ◌∷◌, ◌++◌, Contains, Some, length, sym, ◌∙◌, subst, slice_get}
use Rattle.std.proofs.lemmas.Option.{same_Some}
use Rattle.least_set.specs.Logs.{Adds, IsExactly, SomeGives}
use Rattle.least_set.specs.Indexes.{Extends}
use Rattle.least_set.specs.TwoPremises.{Answers, Kept, Met}
use Rattle.least_set.specs.declared.two_premises.Wait.{Wait}
use Rattle.least_set.proofs.Growing.{adds_same, adds_nothing, adds_more, stays}
use Rattle.least_set.proofs.Keyed.{extends_nothing, extends_more}

module _ {M W : Type 0} (Wakes : W → M → M → Type 0) where
  -- the end that stands at the place
  pub exactly_met : (w : W) (j : ℕ) (e : M) (log found : List M) → slice_get log j ≡ Some e → IsExactly found (Wakes w e) → IsExactly found (Met Wakes log w j)
  exactly_met w j e log found is x = (λ c m. (e, is, x.0 c m), λ c s. x.1 c (subst (λ y. Wakes w y c) (same_Some _ _ (sym s.1 ∙ is)) s.2))

  -- a place says the same of a longer log
  pub met_before : {P : M → Type 0} (w : W) (j : ℕ) {old mid new : List M} → Adds P old mid → j < length old → Adds (Met Wakes mid w j) mid new → Adds (Met Wakes old w j) mid new
  met_before w j v h a = adds_same a (λ c s. (s.0, sym (stays v j h) ∙ s.1, s.2)) (λ c s. (s.0, stays v j h ∙ s.1, s.2))

  pub all_met_before : {P : M → Type 0} (w : W) (xs ys : List ℕ) {old mid new : List M} → Adds P old mid → ((j : ℕ) → Contains ys j → j < length old) → xs ≡ ys
      → Adds (SomeGives (Met Wakes mid w) xs) mid new → Adds (SomeGives (Met Wakes old w) ys) mid new
  all_met_before w xs ys v h e a = adds_same a
      (λ c s. let m = subst (λ l. Contains l s.0) e s.1 in let t = s.2 in (s.0, m, (t.0, sym (stays v s.0 (h s.0 m)) ∙ t.1, t.2)))
      (λ c s. let m = s.1 in let t = s.2 in (s.0, subst (λ l. Contains l s.0) (sym e) m, (t.0, stays v s.0 (h s.0 m) ∙ t.1, t.2)))

module _ {M K W : Type 0} (Wakes : W → M → M → Type 0) (old : List M) (ended : K → List ℕ) where
  abbrev each : Wait K W → M → Type 0
  each x = SomeGives (Met Wakes old x.waiter) (ended x.on)

  pub answers_nothing : Adds (Answers Wakes old ended []) old old
  answers_nothing = adds_nothing each old

  -- one more has been answered
  pub answers_more : (xs : List (Wait K W)) (x : Wait K W) {mid new : List M} → Adds (Answers Wakes old ended xs) old mid
      → Adds (SomeGives (Met Wakes old x.waiter) (ended x.on)) mid new → Adds (Answers Wakes old ended (xs ++ x ∷ [])) old new
  answers_more xs x v w = adds_more each xs x v w

module _ {K W : Type 0} where
  abbrev own : Wait K W → K → W → Type 0
  own x k w = (x.on ≡ k) × (x.waiter ≡ w)

  pub keeps_nothing : (old : K → List W) → Extends (Kept []) old old
  keeps_nothing old = extends_nothing own old

  -- one more is kept
  pub keeps_more : (xs : List (Wait K W)) (x : Wait K W) {old mid new : K → List W} → Extends (Kept xs) old mid → Extends (own x) mid new → Extends (Kept (xs ++ x ∷ [])) old new
  keeps_more xs x v w = extends_more own xs x v w
