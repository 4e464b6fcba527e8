-- The first of a list that gives something, with its number.
use Rattle.std.proofs.Common.{arith, ◌≡◌, ℕ, zero, suc, ◌+◌, List, [], ◌∷◌, take, Option, None, Some, refl, sym, ap, subst, ◌∙◌}
use Rattle.std.specs.List.{enumerate_from}
use Rattle.std.specs.Option.{IsSome, option_map}
use Rattle.state_tuples.specs.AppliedRules.Applied.{Applied, with_number}
use Rattle.state_tuples.specs.Ways.Firsts.{rule_taken}
use Rattle.type_rules.specs.Options.{or_else}
use Rattle.path_model.specs.CheckerModel.Choices.{Taken, first_some}
use Rattle.state_tuples.specs.RuleChoices.Firsts.{IsFirst}

module _ {A : Type 0} (f : A → Option Taken) where
  abbrev pub numbered : ℕ × A → Option Applied
  numbered x = option_map (with_number x.0) (f x.1)

  -- without the numbers it is the first of the list itself
  pub without_numbers : (n : ℕ) (xs : List A) → rule_taken (first_some numbered (enumerate_from n xs)) ≡ first_some f xs
  without_numbers n [] = refl
  without_numbers n (x ∷ xs) = by (f x) (without_numbers (n + 1) xs)
    where
      by : (o : Option Taken) → rule_taken (first_some numbered (enumerate_from (n + 1) xs)) ≡ first_some f xs
          → rule_taken (or_else (option_map (with_number n) o) (first_some numbered (enumerate_from (n + 1) xs))) ≡ or_else o (first_some f xs)
      by None h = h
      by (Some t) h = refl

  -- where it stands, if the first has the number n
  pub record Stands (n : ℕ) (xs : List A) (x : Applied) : Type 0 where
    pub position : ℕ
    pub number : x.number ≡ n + position
    pub first : IsFirst f xs position
    pub item : A
    pub gives : f item ≡ Some x.taken

  here : (n : ℕ) (y : A) (ys : List A) (t : Taken) (x : Applied) → f y ≡ Some t → Some (with_number n t) ≡ Some x → Stands n (y ∷ ys) x
  here n y ys t x g e =
      let same : with_number n t ≡ x = cc in
      let number : n ≡ x.number = ap (λ (z : Applied). z.number) same in
      record {
        position = 0;
        number = omega (arith, number);
        first = record { before = refl; there = subst (λ (o : Option Taken). IsSome o) (sym g) refl };
        item = y;
        gives = g ∙ ap (λ (z : Applied). Some z.taken) same;
      }

  later : (n : ℕ) (y : A) (ys : List A) (x : Applied) → f y ≡ None → Stands (n + 1) ys x → Stands n (y ∷ ys) x
  later n y ys x none s =
      let number : x.number ≡ n + 1 + s.position = s.number in
      record {
        position = suc s.position;
        number = omega (arith, number);
        first = record { before = ap (λ (o : Option Taken). or_else o (first_some f (take s.position ys))) none ∙ s.first.before; there = s.first.there };
        item = s.item;
        gives = s.gives;
      }

  pub stands : (n : ℕ) (xs : List A) (x : Applied) → first_some numbered (enumerate_from n xs) ≡ Some x → Stands n xs x
  stands n [] x e = cc
  stands n (y ∷ ys) x e = by (f y) refl e (stands (n + 1) ys x)
    where
      by : (o : Option Taken) → f y ≡ o → or_else (option_map (with_number n) o) (first_some numbered (enumerate_from (n + 1) ys)) ≡ Some x
          → (first_some numbered (enumerate_from (n + 1) ys) ≡ Some x → Stands (n + 1) ys x) → Stands n (y ∷ ys) x
      by (Some t) g k rest = here n y ys t x g k
      by None g k rest = later n y ys x g (rest k)
