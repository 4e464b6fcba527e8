-- Lists of steps of the program beside those of the definitions.
use Rattle.std.proofs.Common.{◌≡◌, ℕ, List, [], ◌∷◌, ◌++◌, ◌&&◌, map, refl, ap}
use Rattle.std.specs.Prelude.{flat_map}
use Rattle.std.specs.Cmp.Lexicographic.{pointwise}
use Rattle.c_objects.specs.Objects.{Selector, same_selector}
use Rattle.objects.specs.Equality.{selector_input}
use Rattle.objects.specs.Selectors.{selector_of, selectors_of}
use Rattle.objects.specs.declared.selector.Selector as code

pub same-steps : (xs ys : List code.Selector) → pointwise (λ a b. same_selector (selector_of a) (selector_of b)) xs ys ≡ pointwise same_selector (selectors_of xs) (selectors_of ys)
same-steps [] [] = refl
same-steps [] (y ∷ ys) = refl
same-steps (x ∷ xs) [] = refl
same-steps (x ∷ xs) (y ∷ ys) = ap (λ b. same_selector (selector_of x) (selector_of y) && b) (same-steps xs ys)

pub inputs-steps : (xs : List code.Selector) → flat_map (λ s. selector_input (selector_of s)) xs ≡ flat_map selector_input (selectors_of xs)
inputs-steps [] = refl
inputs-steps (x ∷ xs) = ap (λ l. selector_input (selector_of x) ++ l) (inputs-steps xs)

pub ruleset lists = (same-steps, inputs-steps)
