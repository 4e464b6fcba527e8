-- The first of a list that gives something, where the list is gone over: what was passed gave nothing.
use Rattle.std.proofs.Common.{rules, arith, ◌≡◌, ℕ, zero, suc, ◌+◌, ◌<◌, ◌≤◌, List, [], ◌∷◌, ◌++◌, length, get_or, take, drop, map, Option, None, Some, refl, sym, ap, ◌∙◌}
use Rattle.std.specs.Prelude.{IsSome, slice_get}
use Rattle.std.proofs.lemmas.List.{take_more, take_all, take-append-drop, take-map, drop_more, map-append}
use Rattle.type_rules.specs.Options.{or_else, ◌>?◌}
use Rattle.path_model.specs.CheckerModel.Choices.{first_some}
use Rattle.state_tuples.specs.RuleChoices.Firsts.{IsFirst}

passed : {B : Type 0} (o front back whole : Option B) → (front ≡ None → back ≡ whole) → or_else o front ≡ None → or_else o back ≡ whole
passed None front back whole f h = f h
passed (Some b) front back whole f h = cc

first_some-append : {A B : Type 0} (f : A → Option B) (xs ys : List A) → first_some f xs ≡ None → first_some f (xs ++ ys) ≡ first_some f ys
first_some-append f [] ys h = refl
first_some-append f (x ∷ xs) ys h = passed (f x) (first_some f xs) (first_some f (xs ++ ys)) (first_some f ys) (first_some-append f xs ys) h

at : {A C : Type 0} (v : A → C) (xs : List A) (i : ℕ) (d : A) → i < length xs → slice_get (map v xs) i ≡ Some (v (get_or xs i d))
at v [] i d h = absurd (omega arith)
at v (x ∷ xs) zero d h = refl
at v (x ∷ xs) (suc i) d h = at v xs i d (omega arith)

module _ {A B C : Type 0} (f : C → Option B) (v : A → C) (xs : List A) (i : ℕ) (d : A) where
  -- one more that gives nothing
  pub first_some-next : i < length xs → first_some f (map v (take i xs)) ≡ None → f (v (get_or xs i d)) ≡ None → first_some f (map v (take (i + 1) xs)) ≡ None
  first_some-next h before none =
      ap (λ ys. first_some f (map v ys)) (take_more xs i d h)
      ∙ ap (first_some f) (map-append v (take i xs) (get_or xs i d ∷ []))
      ∙ first_some-append f (map v (take i xs)) (v (get_or xs i d) ∷ []) before
      ∙ ap (λ o. or_else o None) none

  -- the one that gives something
  pub first_some-here : (b : B) → i < length xs → first_some f (map v (take i xs)) ≡ None → f (v (get_or xs i d)) ≡ Some b → first_some f (map v xs) ≡ Some b
  first_some-here b h before some =
      ap (λ ys. first_some f (map v ys)) (sym (take-append-drop i xs))
      ∙ ap (first_some f) (map-append v (take i xs) (drop i xs))
      ∙ first_some-append f (map v (take i xs)) (map v (drop i xs)) before
      ∙ ap (λ ys. first_some f (map v ys)) (drop_more xs i d h)
      ∙ ap (λ o. or_else o (first_some f (map v (drop (i + 1) xs)))) some

  -- none does
  pub first_some-past : length xs ≤ i → first_some f (map v (take i xs)) ≡ None → first_some f (map v xs) ≡ None
  first_some-past h before = sym (ap (λ ys. first_some f (map v ys)) (take_all i xs h)) ∙ before

  is-some : (b : B) (o : Option B) → o ≡ Some b → IsSome o
  is-some b None h = cc
  is-some b (Some x) h = search rules

  pub is_first : (b : B) → i < length xs → first_some f (map v (take i xs)) ≡ None → f (v (get_or xs i d)) ≡ Some b → IsFirst f (map v xs) i
  is_first b h before some = record {
    before = ap (first_some f) (take-map v i xs) ∙ before;
    there = is-some b (slice_get (map v xs) i >? f) (ap (λ o. o >? f) (at v xs i d h) ∙ some);
  }
