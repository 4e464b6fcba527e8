-- Lists that are gone over: what each value gives, one after the other.
use Rattle.std.proofs.Common.{◌≡◌, ◌⊎◌, inl, inr, ℕ, zero, suc, ◌+◌, ◌<◌, List, [], ◌∷◌, ◌++◌, map, length, get_or, take, Contains, refl, sym, ap, subst, ◌∙◌, arith}
use Rattle.std.specs.Prelude.{flat_map}
use Rattle.std.proofs.lemmas.Grind.{common_steps}
use Rattle.std.proofs.lemmas.List.{take_more}
use Rattle.std.proofs.lemmas.List.Elements.{Contains-append_left, Contains-append_right, Contains-append_cases, Contains-push, Contains-push_cases}
use Rattle.flow_graph.specs.CPaths.Membership.{Among}
use Rattle.least_set.specs.Logs.{IsExactly, SomeGives}
use Rattle.least_set.proofs.Growing.{nothing}

module _ {A : Type 0} where
  pub contains-first : (x : A) (xs : List A) → Contains (x ∷ xs) x
  contains-first x xs = (0, omega arith, refl)

  pub contains-later : (x y : A) (xs : List A) → Contains xs y → Contains (x ∷ xs) y
  contains-later x y xs (k, h, e) = (suc k, omega (arith, h), e)

  pub contains-cases : (x y : A) (xs : List A) → Contains (x ∷ xs) y → (x ≡ y) ⊎ Contains xs y
  contains-cases x y xs (zero, h, e) = inl e
  contains-cases x y xs (suc k, h, e) = inr (k, omega (arith, h), e)

  pub among-contains : (xs : List A) (x : A) → Among x xs → Contains xs x
  among-contains [] x h = absurd h
  among-contains (y ∷ ys) x (inl e) = subst (λ z. Contains (y ∷ ys) z) (sym e) (contains-first y ys)
  among-contains (y ∷ ys) x (inr h) = contains-later y x ys (among-contains ys x h)

  pub contains-among : (xs : List A) (x : A) → Contains xs x → Among x xs
  contains-among [] x h = absurd (nothing x h)
  contains-among (y ∷ ys) x h = elim (contains-cases y x ys h) [ inl e ↦ inl (sym e) | inr k ↦ inr (contains-among ys x k) ]

  pub exactly-same : (P Q : A → Type 0) (out : List A) → IsExactly out P → ((b : A) → P b → Q b) → ((b : A) → Q b → P b) → IsExactly out Q
  exactly-same P Q out e to from = (λ b m. to b (e.0 b m), λ b q. e.1 b (from b q))

  pub exactly-none : (Q : A → Type 0) → ((b : A) → Q b → ⊥) → IsExactly [] Q
  exactly-none Q none = (λ b m. absurd (nothing b m), λ b q. absurd (none b q))

module _ {A B : Type 0} (f : A → B) where
  pub contains-map : (xs : List A) (x : A) → Contains xs x → Contains (map f xs) (f x)
  contains-map [] x h = absurd (nothing x h)
  contains-map (y ∷ ys) x h = elim (contains-cases y x ys h) [
    | inl e ↦ subst (λ z. Contains (f y ∷ map f ys) (f z)) e (contains-first (f y) (map f ys))
    | inr k ↦ contains-later (f y) (f x) (map f ys) (contains-map ys x k)
  ]

  pub map-contains : (xs : List A) (b : B) → Contains (map f xs) b → (x : A) × Contains xs x × (f x ≡ b)
  map-contains [] b h = absurd (nothing b h)
  map-contains (y ∷ ys) b h = elim (contains-cases (f y) b (map f ys) h) [
    | inl e ↦ (y, contains-first y ys, e)
    | inr k ↦ let m = map-contains ys b k in (m.0, contains-later y m.0 ys m.1, m.2)
  ]

module _ {A B : Type 0} (f : A → List B) where
  pub contains-flat : (xs : List A) (x : A) (b : B) → Contains xs x → Contains (f x) b → Contains (flat_map f xs) b
  contains-flat [] x b h k = absurd (nothing x h)
  contains-flat (y ∷ ys) x b h k = elim (contains-cases y x ys h) [
    | inl e ↦ Contains-append_left (f y) (flat_map f ys) b (subst (λ z. Contains (f z) b) (sym e) k)
    | inr l ↦ Contains-append_right (f y) (flat_map f ys) b (contains-flat ys x b l k)
  ]

  pub flat-contains : (xs : List A) (b : B) → Contains (flat_map f xs) b → (x : A) × Contains xs x × Contains (f x) b
  flat-contains [] b h = absurd (nothing b h)
  flat-contains (y ∷ ys) b h = elim (Contains-append_cases (f y) (flat_map f ys) b h) [
    | inl l ↦ (y, contains-first y ys, l)
    | inr k ↦ let m = flat-contains ys b k in (m.0, contains-later y m.0 ys m.1, m.2)
  ]

-- where each value of a list gives a list of its own, and all are put one behind the other
module _ {T M : Type 0} (G : T → M → Type 0) where
  more-given : (xs : List T) (x : T) (out more : List M) → IsExactly out (SomeGives G xs) → IsExactly more (G x) → IsExactly (out ++ more) (SomeGives G (xs ++ x ∷ []))
  more-given xs x out more e g = (
    λ c m. elim (Contains-append_cases out more c m) [
      | inl o ↦ let s = e.0 c o in (s.0, Contains-append_left xs (x ∷ []) s.0 s.1, s.2)
      | inr q ↦ (x, Contains-push xs x, g.0 c q)
    ],
    λ c s. elim (Contains-push_cases xs x s.0 s.1) [
      | inl o ↦ Contains-append_left out more c (e.1 c (s.0, o, s.2))
      | inr q ↦ Contains-append_right out more c (g.1 c (subst (λ y. G y c) (sym q) s.2))
    ],
  )

  pub given-next : (xs : List T) (i : ℕ) (x : T) (out more new : List M) → i < length xs → x ≡ get_or xs i x → IsExactly out (SomeGives G (take i xs)) → IsExactly more (G x)
      → new ≡ out ++ more → IsExactly new (SomeGives G (take (i + 1) xs))
  given-next xs i x out more new h is e g n =
      subst (λ l. IsExactly l (SomeGives G (take (i + 1) xs))) (sym n)
      (subst (λ l. IsExactly (out ++ more) (SomeGives G l)) (sym (take_more xs i x h))
      (subst (λ y. IsExactly (out ++ more) (SomeGives G (take i xs ++ y ∷ []))) is (more-given (take i xs) x out more e g)))

-- the same where each gives one, or a list that is known
pub mapped-next : {A B : Type 0} (f : A → B) (xs : List A) (i : ℕ) (x : A) (old out new : List B) (d : B) → i < length xs → x ≡ get_or xs i x → out ≡ old ++ map f (take i xs)
    → new ≡ out ++ d ∷ [] → d ≡ f x → new ≡ old ++ map f (take (i + 1) xs)
mapped-next f xs i x old out new d h is e n s = n ∙ ap (λ l. l ++ d ∷ []) e ∙ ap (λ y. (old ++ map f (take i xs)) ++ y ∷ []) s
    ∙ mapped-more f (take i xs) x old
    ∙ ap (λ y. old ++ map f (take i xs ++ y ∷ [])) is
    ∙ ap (λ l. old ++ map f l) (sym (take_more xs i x h))
  where
    mapped-more : {A B : Type 0} (f : A → B) (ys : List A) (x : A) (old : List B) → (old ++ map f ys) ++ f x ∷ [] ≡ old ++ map f (ys ++ x ∷ [])
    mapped-more f ys x old = grind (arith, common_steps)
