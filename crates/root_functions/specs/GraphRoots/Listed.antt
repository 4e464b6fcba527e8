-- The order of roots.
use Rattle.std.specs.Prelude.{◌≡◌, ◌↔◌, ℕ, ◌<◌, List, ◌++◌, Contains, AllPairs}

-- THE LIST OF ROOTS of so many functions: each root once, first those to which none leads, then the others, both by rising numbers.
pub record AreListed (IsUncalled IsRoot : ℕ → Type 0) (count : ℕ) (roots : List ℕ) : Type 0 where
  pub exact : (f : ℕ) → f < count → Contains roots f ↔ IsRoot f
  pub within : (f : ℕ) → Contains roots f → f < count
  pub uncalled : List ℕ
  pub others : List ℕ
  pub in_order : roots ≡ uncalled ++ others
  pub first : (f : ℕ) → Contains uncalled f → IsUncalled f
  pub last : (f : ℕ) → Contains others f → IsUncalled f → ⊥
  pub first_rise : AllPairs (λ f g. f < g) uncalled
  pub last_rise : AllPairs (λ f g. f < g) others
