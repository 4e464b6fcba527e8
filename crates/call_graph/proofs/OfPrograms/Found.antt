-- A body that is found is one of the functions.
use Rattle.std.proofs.Common.{◌≡◌, ℕ, suc, ◌<◌, List, [], ◌∷◌, length, Option, None, Some, cond, Bool, true, false, refl, arith}
use Rattle.std.specs.Prelude.{IfSome}
use Rattle.std.specs.Option.{option_map}
use Rattle.type_rules.specs.Functions.{Defined}
use Rattle.type_rules.specs.Options.{or_else}
use Rattle.call_graph.specs.declared.programs.functions.FnId.{FnId}
use Rattle.call_graph.specs.OfPrograms.Bodies.{is_in_file, is_external, first_position, body_of}

first-below : (test : Defined → Bool) (fs : List Defined) (i : ℕ) → first_position test fs ≡ Some i → i < length fs
first-below test [] i e = cc
first-below test (f ∷ fs) i e = by (test f) (first_position test fs) (first-below test fs) e
  where
    by : (b : Bool) (o : Option ℕ) → ((j : ℕ) → o ≡ Some j → j < length fs) → cond b (Some 0) (option_map suc o) ≡ Some i → i < suc (length fs)
    by true o h k = let z : 0 ≡ i = cc in grind (arith, z)
    by false None h k = cc
    by false (Some j) h k = let z : suc j ≡ i = cc in let l = h j refl in grind (arith, z, l)

either-below : (n i : ℕ) (a b : Option ℕ) → ((j : ℕ) → a ≡ Some j → j < n) → ((j : ℕ) → b ≡ Some j → j < n) → or_else a b ≡ Some i → i < n
either-below n i (Some j) b f g e = f i e
either-below n i None b f g e = g i e

pub body-below : (file name i : ℕ) (fs : List Defined) → body_of file name fs ≡ Some i → i < length fs
body-below file name i fs e = either-below (length fs) i (first_position (is_in_file file name) fs) (first_position (is_external name) fs) (first-below (is_in_file file name) fs) (first-below (is_external name) fs) e

pub if-below : (o : Option FnId) (n : ℕ) → ((i : ℕ) → option_map (λ (f : FnId). f.number) o ≡ Some i → i < n) → IfSome o (λ f. f.number < n)
if-below None n h = tt
if-below (Some f) n h = h f.number refl
