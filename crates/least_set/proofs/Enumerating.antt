-- Lists that a loop makes: of each value of a list it takes what that value gives, if it gives any.
use Rattle.std.proofs.Common.{◌≡◌, ℕ, ◌+◌, ◌<◌, List, [], ◌∷◌, ◌++◌, Contains, length, get_or, take, sym, subst, inl, inr, ◌⊎◌}
use Rattle.std.proofs.lemmas.List.{take_more}
use Rattle.std.proofs.lemmas.List.Elements.{Contains-append_left, Contains-append_right, Contains-append_cases, Contains-push, Contains-push_cases}
use Rattle.least_set.specs.Logs.{IsExactly, SomeGives}
use Rattle.least_set.proofs.Growing.{nothing}

module _ {T M : Type 0} (G : T → M → Type 0) where
  pub exactly_none : IsExactly [] (SomeGives G [])
  exactly_none = (λ c m. absurd (nothing c m), λ c s. absurd (nothing s.0 s.1))

  -- the next value gives one
  pub exactly_more : (xs : List T) (x : T) (out : List M) (d : M) → IsExactly out (SomeGives G xs) → G x d → ((c : M) → G x c → d ≡ c) → IsExactly (out ++ d ∷ []) (SomeGives G (xs ++ x ∷ []))
  exactly_more xs x out d e g one = (
    λ c m. elim (Contains-push_cases out d c m) [
      | inl o ↦ let s = e.0 c o in (s.0, Contains-append_left xs (x ∷ []) s.0 s.1, s.2)
      | inr q ↦ (x, Contains-push xs x, subst (G x) q g)
    ],
    λ c s. elim (Contains-push_cases xs x s.0 s.1) [
      | inl o ↦ Contains-append_left out (d ∷ []) c (e.1 c (s.0, o, s.2))
      | inr q ↦ subst (Contains (out ++ d ∷ [])) (one c (subst (λ y. G y c) (sym q) s.2)) (Contains-push out d)
    ],
  )

  -- it gives none
  pub exactly_skip : (xs : List T) (x : T) (out : List M) → IsExactly out (SomeGives G xs) → ((c : M) → G x c → ⊥) → IsExactly out (SomeGives G (xs ++ x ∷ []))
  exactly_skip xs x out e none = (
    λ c m. let s = e.0 c m in (s.0, Contains-append_left xs (x ∷ []) s.0 s.1, s.2),
    λ c s. elim (Contains-push_cases xs x s.0 s.1) [ inl o ↦ e.1 c (s.0, o, s.2) | inr q ↦ absurd (none c (subst (λ y. G y c) (sym q) s.2)) ],
  )

  -- so at the place i of a list that is gone through
  pub exactly_next : (xs : List T) (i : ℕ) (x : T) (out : List M) (d : M) → i < length xs → IsExactly out (SomeGives G (take i xs)) → G (get_or xs i x) d → ((c : M) → G (get_or xs i x) c → d ≡ c)
      → IsExactly (out ++ d ∷ []) (SomeGives G (take (i + 1) xs))
  exactly_next xs i x out d h e g one = subst (λ l. IsExactly (out ++ d ∷ []) (SomeGives G l)) (sym (take_more xs i x h)) (exactly_more (take i xs) (get_or xs i x) out d e g one)

  pub exactly_past : (xs : List T) (i : ℕ) (x : T) (out : List M) → i < length xs → IsExactly out (SomeGives G (take i xs)) → ((c : M) → G (get_or xs i x) c → ⊥)
      → IsExactly out (SomeGives G (take (i + 1) xs))
  exactly_past xs i x out h e none = subst (λ l. IsExactly out (SomeGives G l)) (sym (take_more xs i x h)) (exactly_skip (take i xs) (get_or xs i x) out e none)

-- two lists, one behind the other
pub exactly_both : {M : Type 0} {P Q : M → Type 0} (xs ys : List M) → IsExactly xs P → IsExactly ys Q → IsExactly (xs ++ ys) (λ c. P c ⊎ Q c)
exactly_both xs ys p q = (
  λ c m. elim (Contains-append_cases xs ys c m) [ inl a ↦ inl (p.0 c a) | inr b ↦ inr (q.0 c b) ],
  λ c s. elim s [ inl a ↦ Contains-append_left xs ys c (p.1 c a) | inr b ↦ Contains-append_right xs ys c (q.1 c b) ],
)
