-- Whether something holds of one of many, or of all: loops that go over a slice, and the lists that definitions have.
use Rattle.std.proofs.Common.{◌≡◌, ℕ, ◌+◌, ◌<◌, ◌≤◌, Bool, true, false, ◌||◌, ◌&&◌, List, [], ◌∷◌, ◌++◌, length, get_or, drop, map, flat_map, ap, refl, ◌∙◌, sym, add-one, drop-cons, arith}
use Rattle.std.proofs.lemmas.List.{drop_all, length-map}
use Rattle.metal_grammar.specs.Grammar.{each, some}
use Rattle.metal_grammar.specs.Faults.{any_of}
use Rattle.metal_grammar.specs.Rules.{is_among}
use Rattle.metal_tree.specs.MetalMachines.Kept.{all_of}
use Rattle.metal_written.specs.Written.{row_from}
use Rattle.metal_written.proofs.Nodes.{among-append}
use Rattle.metal_written.proofs.Rows.{members-row}

-- what the first i of these were mapped to is passed
pub mapped-drop : {A B : Type 0} (view : A → B) (xs : List A) (i : ℕ) (d : A) → i < length xs → map view (drop i xs) ≡ view (get_or xs i d) ∷ map view (drop (i + 1) xs)
mapped-drop view xs i d h = ap (map view) (drop-cons xs i d h) ∙ ap (λ j. view (get_or xs i d) ∷ map view (drop j xs)) (sym (add-one i))

pub mapped-end : {A B : Type 0} (view : A → B) (xs : List A) (i : ℕ) → length xs ≤ i → map view (drop i xs) ≡ []
mapped-end view xs i h = ap (map view) (drop_all i xs h)

pub some-row : {A : Type 0} (none : A) (is : A → Bool) (xs : List A) → 0 < length xs → some is (row_from none xs) ≡ any_of is xs
some-row none is [] h = absurd (omega arith)
some-row none is (x ∷ []) h = by (is x)
  where
    by : (b : Bool) → b ≡ (b || false)
    by true = refl
    by false = refl
some-row none is (x ∷ y ∷ ys) h = ap (λ b. is x || b) (some-row none is (y ∷ ys) (omega arith))

pub each-row : {A : Type 0} (none : A) (is : A → Bool) (xs : List A) → 0 < length xs → each is (row_from none xs) ≡ all_of is xs
each-row none is [] h = absurd (omega arith)
each-row none is (x ∷ []) h = by (is x)
  where
    by : (b : Bool) → b ≡ (b && true)
    by true = refl
    by false = refl
each-row none is (x ∷ y ∷ ys) h = ap (λ b. is x && b) (each-row none is (y ∷ ys) (omega arith))

-- the same of a list that is seen as another
pub some-mapped : {A B : Type 0} (none : B) (view : A → B) (is : B → Bool) (xs : List A) → 0 < length xs → some is (row_from none (map view xs)) ≡ any_of is (map view xs)
some-mapped none view is xs h = let e : length (map view xs) ≡ length xs = length-map xs view in some-row none is (map view xs) (omega (arith, e, h))

pub each-mapped : {A B : Type 0} (none : B) (view : A → B) (is : B → Bool) (xs : List A) → 0 < length xs → each is (row_from none (map view xs)) ≡ all_of is (map view xs)
each-mapped none view is xs h = let e : length (map view xs) ≡ length xs = length-map xs view in each-row none is (map view xs) (omega (arith, e, h))

-- a name among all that these give
pub among-flat : {A : Type 0} (f : A → List ℕ) (xs : List A) (n : ℕ) → is_among (flat_map f xs) n ≡ any_of (λ x. is_among (f x) n) xs
among-flat f [] n = refl
among-flat f (x ∷ xs) n = among-append (f x) (flat_map f xs) n ∙ ap (λ b. is_among (f x) n || b) (among-flat f xs n)

pub any-append : {A : Type 0} (is : A → Bool) (xs ys : List A) → any_of is (xs ++ ys) ≡ (any_of is xs || any_of is ys)
any-append is [] ys = refl
any-append is (x ∷ xs) ys = by (is x) (any-append is xs ys)
  where
    by : (b : Bool) → any_of is (xs ++ ys) ≡ (any_of is xs || any_of is ys) → (b || any_of is (xs ++ ys)) ≡ ((b || any_of is xs) || any_of is ys)
    by true e = refl
    by false e = e

pub any-flat : {A B : Type 0} (is : B → Bool) (f : A → List B) (xs : List A) → any_of is (flat_map f xs) ≡ any_of (λ x. any_of is (f x)) xs
any-flat is f [] = refl
any-flat is f (x ∷ xs) = any-append is (f x) (flat_map f xs) ∙ ap (λ b. any_of is (f x) || b) (any-flat is f xs)

pub ruleset anys = (mapped-drop, mapped-end, some-mapped, each-mapped, some-row, each-row, members-row, among-flat, any-flat)

pub ruleset appended = (among-append, any-append)
