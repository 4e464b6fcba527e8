-- Lists in which no two elements compare `Equal`, by any order.
use Rattle.std.specs.Prelude.{◌≡◌, ◌-◌, List, [], ◌∷◌, ◌++◌, length, slice_get, Bool, false, cond, AllPairs, Contains, Option, None, Some}
use Rattle.std.specs.Ordering.{is_eq}
use Rattle.std.specs.declared.cmp.Ordering.{Ordering}
use Rattle.std.specs.declared.cmp.Ordering.TheVariants.{Less, Equal}

-- some element compares `Equal` to x
abbrev pub HasEqual : {X : Type 0} → (X → X → Ordering) → List X → X → Type 0
HasEqual {X} R xs x = (y : X) × Contains xs y × (R y x ≡ Equal)

-- elements that compare `Equal` are the same
abbrev pub AgreeWhereEqual : {X : Type 0} → (X → X → Ordering) → List X → Type 0
AgreeWhereEqual {X} R xs = (x y : X) → Contains xs x → Contains xs y → R x y ≡ Equal → x ≡ y

-- the given elements in order, one of those that compare `Equal`
pub record IsEachOnce {X : Type 0} (R : X → X → Ordering) (given kept : List X) : Type 0 where
  pub ascending : AllPairs (λ a b. R a b ≡ Less) kept
  pub real : (x : X) → Contains kept x → Contains given x
  pub whole : (x : X) → Contains given x → HasEqual R kept x

abbrev pub is_equal : {X : Type 0} → (X → X → Ordering) → X → Option X → Bool
is_equal R x None = false
is_equal R x (Some y) = is_eq (R y x)

-- the last element compares `Equal` to x
abbrev pub is_last : {X : Type 0} → (X → X → Ordering) → List X → X → Bool
is_last R xs x = is_equal R x (slice_get xs (length xs - 1))

-- one more element, unless the last one compares `Equal` to it
abbrev pub with_new : {X : Type 0} → (X → X → Ordering) → List X → X → List X
with_new R xs x = cond (is_last R xs x) xs (xs ++ x ∷ [])
