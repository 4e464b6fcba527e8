-- The numbers of functions, made one after the other.
use Rattle.std.proofs.Common.{◌≡◌, ℕ, ◌+◌, ◌<◌, ◌≤◌, List, [], ◌∷◌, ◌++◌, map, length, take, get_or, sym, subst}
use Rattle.std.proofs.lemmas.List.{length-map}
use Rattle.c_objects.specs.Objects.{Object}
use Rattle.indexmap.specs.IndexSet.{IndexSet}
use Rattle.function_tables.proofs.OneByOne.{map-at, zip-all, zip-next}
use Rattle.numbered_program.specs.Numbered.{AreNumbered, AreNumbersOf}
use Rattle.numbered_program.specs.declared.numbers.Numbers.{Numbers}
use Rattle.path_model.specs.CheckerModel.Choices.{State}

module _ {S : Type 0} (states : List State) (sets : List (IndexSet Object S)) where
  abbrev lists : List (List Object)
  lists = map (λ (set : IndexSet Object S). set.keys) sets

  pub numbers_more : (i : ℕ) (set : IndexSet Object S) (old new : List Numbers) (n : Numbers) → i < length sets → set ≡ get_or sets i set → AreNumbersOf states set.keys n
      → AreNumbered states (take i lists) old → new ≡ old ++ n ∷ [] → AreNumbered states (take (i + 1) lists) new
  numbers_more i set old new n within is are before more =
      zip-next (AreNumbersOf states) lists old new i set.keys n (map-at (λ (z : IndexSet Object S). z.keys) sets i set within is) more before are

  pub numbers_all : (i : ℕ) (numbers : List Numbers) → length sets ≤ i → AreNumbered states (take i lists) numbers → AreNumbered states lists numbers
  numbers_all i numbers past are = zip-all (AreNumbersOf states) lists numbers i (subst (λ (n : ℕ). n ≤ i) (sym (length-map sets (λ (z : IndexSet Object S). z.keys))) past) are
