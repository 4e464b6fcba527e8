-- Lists of objects and of tuples.
use Rattle.std.proofs.Common.{◌≡◌, ◌⊎◌, inl, inr, ℕ, zero, suc, ◌+◌, ◌<◌, List, [], ◌∷◌, ◌++◌, map, length, get_or, take, Contains, Result, Ok, Err, IfOk, Bool, true, false, Option, None, Some, refl, sym, ap, subst, ◌∙◌, arith}
use Rattle.std.proofs.lemmas.List.{map_more}
use Rattle.std.proofs.lemmas.List.Elements.{Contains-append_left, Contains-push, Contains-push_cases}
use Rattle.std.specs.Prelude.{is_none}
use Rattle.flow_graph.specs.CPaths.Membership.{Among}
use Rattle.least_set.specs.Logs.{IsExactly, SomeGives}
use Rattle.least_set.proofs.Growing.{nothing}
use Rattle.least_set.proofs.Enumerating.{exactly_next, exactly_past}

module _ {A : Type 0} where
  -- a list of one more at its front
  pub contains-first : (x : A) (xs : List A) → Contains (x ∷ xs) x
  contains-first x xs = (0, omega arith, refl)

  pub contains-later : (x y : A) (xs : List A) → Contains xs y → Contains (x ∷ xs) y
  contains-later x y xs (k, h, e) = (suc k, omega arith, e)

  pub contains-cases : (x y : A) (xs : List A) → Contains (x ∷ xs) y → (x ≡ y) ⊎ Contains xs y
  contains-cases x y xs (zero, h, e) = inl e
  contains-cases x y xs (suc k, h, e) = inr (k, omega arith, e)

  pub contains-among : (xs : List A) (x : A) → Among x xs → Contains xs x
  contains-among (y ∷ ys) x (inl e) = subst (λ z. Contains (y ∷ ys) z) (sym e) (contains-first y ys)
  contains-among (y ∷ ys) x (inr h) = contains-later y x ys (contains-among ys x h)
  contains-among [] x h = absurd h

  pub among-contains : (xs : List A) (x : A) → Contains xs x → Among x xs
  among-contains [] x h = absurd (nothing x h)
  among-contains (y ∷ ys) x h = elim (contains-cases y x ys h) [ inl e ↦ inl (sym e) | inr k ↦ inr (among-contains ys x k) ]

module _ {A B : Type 0} (f : A → B) where
  pub contains-map : (xs : List A) (x : A) → Contains xs x → Contains (map f xs) (f x)
  contains-map [] x h = absurd (nothing x h)
  contains-map (y ∷ ys) x h = elim (contains-cases y x ys h) [
    | inl e ↦ subst (λ z. Contains (f y ∷ map f ys) (f z)) e (contains-first (f y) (map f ys))
    | inr k ↦ contains-later (f y) (f x) (map f ys) (contains-map ys x k)
  ]

  pub map-contains : (xs : List A) (b : B) → Contains (map f xs) b → (x : A) × Contains xs x × (f x ≡ b)
  map-contains [] b h = absurd (nothing b h)
  map-contains (y ∷ ys) b h = elim (contains-cases (f y) b (map f ys) h) [
    | inl e ↦ (y, contains-first y ys, e)
    | inr k ↦ let m = map-contains ys b k in (m.0, contains-later y m.0 ys m.1, m.2)
  ]

-- one more value, which is the only one of its kind
pub exactly-push : {B : Type 0} (P Q : B → Type 0) (out : List B) (d : B) → IsExactly out P → Q d → ((b : B) → P b → Q b) → ((b : B) → Q b → P b ⊎ (d ≡ b))
    → IsExactly (out ++ d ∷ []) Q
exactly-push P Q out d e there within split = (
  λ b m. elim (Contains-push_cases out d b m) [ inl o ↦ within b (e.0 b o) | inr s ↦ subst Q s there ],
  λ b q. elim (split b q) [
    | inl p ↦ Contains-append_left out (d ∷ []) b (e.1 b p)
    | inr s ↦ subst (λ z. Contains (out ++ d ∷ []) z) s (Contains-push out d)
  ],
)

pub exactly-same : {B : Type 0} (P Q : B → Type 0) (out : List B) → IsExactly out P → ((b : B) → P b → Q b) → ((b : B) → Q b → P b) → IsExactly out Q
exactly-same P Q out e to from = (λ b m. to b (e.0 b m), λ b q. e.1 b (from b q))

pub exactly-alone : {B : Type 0} (Q : B → Type 0) (d : B) → Q d → ((b : B) → Q b → d ≡ b) → IsExactly (d ∷ []) Q
exactly-alone Q d there one = (
  λ b m. elim (contains-cases d b [] m) [ inl e ↦ subst Q e there | inr n ↦ absurd (nothing b n) ],
  λ b q. subst (λ z. Contains (d ∷ []) z) (one b q) (contains-first d []),
)

-- a list of which each value that holds gives one, where it is gone over
module _ {A B : Type 0} (P : A → Type 0) (F : A → B) (xs : List A) (i : ℕ) (x : A) (out : List B) (within : i < length xs) (is : x ≡ get_or xs i x)
    (before : IsExactly out (SomeGives (λ a b. P a × (F a ≡ b)) (take i xs))) where
  pub given-next : (d : B) → P x → d ≡ F x → IsExactly (out ++ d ∷ []) (SomeGives (λ a b. P a × (F a ≡ b)) (take (i + 1) xs))
  given-next d p e = exactly_next (λ a b. P a × (F a ≡ b)) xs i x out d within before
      (subst (λ z. P z × (F z ≡ d)) is (p, sym e))
      (λ b g. let same : F x ≡ F (get_or xs i x) = ap F is in e ∙ same ∙ g.1)

  pub given-past : (P x → ⊥) → IsExactly out (SomeGives (λ a b. P a × (F a ≡ b)) (take (i + 1) xs))
  given-past none = exactly_past (λ a b. P a × (F a ≡ b)) xs i x out within before (λ b g. none (subst P (sym is) g.0))

-- and where each gives one
pub mapped-next : {A B : Type 0} (F : A → B) (xs : List A) (i : ℕ) (x : A) (out new : List B) (d : B) → i < length xs → x ≡ get_or xs i x → out ≡ map F (take i xs)
    → new ≡ out ++ d ∷ [] → d ≡ F x → new ≡ map F (take (i + 1) xs)
mapped-next F xs i x out new d within is before pushed e =
    pushed ∙ ap (λ z. z ++ d ∷ []) before ∙ ap (λ z. map F (take i xs) ++ z ∷ []) (e ∙ ap F is) ∙ sym (map_more F xs i x within)

pub if-ok : {A E : Type 0} (P Q : A → Type 0) (r : Result A E) → ((a : A) → P a → Q a) → IfOk r P → IfOk r Q
if-ok P Q (Ok a) f h = f a h
if-ok P Q (Err e) f h = tt

-- a test for what is missing
pub none-found : {A : Type 0} (q : Option A) (b : Bool) → b ≡ is_none q → b ≡ true → q ≡ None
none-found None b e h = refl
none-found (Some x) b e h = absurd (by (sym e ∙ h))
  where
    by : false ≡ true → ⊥
    by k = cc

pub some-found : {A : Type 0} (q : Option A) (b : Bool) → b ≡ is_none q → b ≡ false → q ≡ None → ⊥
some-found q b e h n = by (sym (ap is_none n) ∙ sym e ∙ h)
  where
    by : true ≡ false → ⊥
    by k = cc
