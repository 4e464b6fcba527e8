-- Slots by their numbers.
use Rattle.std.proofs.Common.{arith, ◌≡◌, ℕ, zero, suc, ◌<◌, ◌≤◌, ◌+◌, List, [], ◌∷◌, ◌++◌, replicate, length, map, Option, None, Some, refl, ◌∙◌, ap}
use Rattle.std.specs.Prelude.{slice_get, slice_set}
use Rattle.type_rules.specs.Options.{if_there}
use Rattle.std.specs.Option.{option_map}
use Rattle.hole_matching.specs.Matched.{nothing_taken, put}
use Rattle.hole_matching.specs.Matching.{slot}
use Rattle.hole_matcher.specs.declared.hole_bindings.binding.Taken as code
use Rattle.hole_matcher.specs.HoleBindings.Bindings.{taken_of}

pub slots_at : (xs : List (Option code.Taken)) (n : ℕ) → slot n (map (option_map taken_of) xs) ≡ if_there (slice_get xs n) None (λ x. option_map taken_of x)
slots_at [] n = refl
slots_at (x ∷ xs) zero = refl
slots_at (x ∷ xs) (suc n) = slots_at xs n

pub put_items : (xs : List (Option code.Taken)) (n : ℕ) (t : code.Taken) → n < length xs → map (option_map taken_of) (slice_set xs n (Some t)) ≡ put n (taken_of t) (map (option_map taken_of) xs)
put_items [] n t h = absurd (omega arith)
put_items (x ∷ xs) zero t h = refl
put_items (x ∷ xs) (suc n) t h = ap (λ ys. option_map taken_of x ∷ ys) (put_items xs n t (grind arith))

pub put_past : (xs : List (Option code.Taken)) (n : ℕ) (t : code.Taken) → length xs ≤ n → put n (taken_of t) (map (option_map taken_of) xs) ≡ map (option_map taken_of) xs
put_past [] n t h = refl
put_past (x ∷ xs) zero t h = absurd (omega arith)
put_past (x ∷ xs) (suc n) t h = ap (λ ys. option_map taken_of x ∷ ys) (put_past xs n t (grind arith))

pub one_more_empty : (n : ℕ) → replicate {A = Option code.Taken} n None ++ (None ∷ []) ≡ replicate (n + 1) None
one_more_empty zero = refl
one_more_empty (suc n) = ap (λ xs. None ∷ xs) (one_more_empty n) ∙ ap (λ k. replicate k None) (let e : suc (n + 1) ≡ suc n + 1 = grind arith in e)

pub empty_slots : (xs : List (Option code.Taken)) (n : ℕ) → xs ≡ replicate n None → 16 ≤ n → n ≤ 16 → map (option_map taken_of) xs ≡ nothing_taken
empty_slots xs n e h k = ap (map (option_map taken_of)) (e ∙ ap (λ m. replicate m None) (let f : n ≡ 16 = grind (arith, h, k) in f))
