-- Names are texts without repeats, and the number of a name is its place among them, from 0.
use Rattle.std.specs.Prelude.{◌≡◌, ℕ, ◌≤◌, List, [], ◌∷◌, ◌++◌, length, Some, slice_get, if◌then◌else◌}
use Rattle.std.specs.List.{list_any, position_or_len, IsDistinct}
use Rattle.std.specs.Str.{bytes_eq}

-- the place of the text, or the number of names where it is not among them
abbrev pub number_of : List (List ℕ) → List ℕ → ℕ
number_of names text = position_or_len (bytes_eq text) names

-- the text goes last where it is not among the names
abbrev pub names_after : List (List ℕ) → List ℕ → List (List ℕ)
names_after names text = if list_any (bytes_eq text) names then names else (names ++ text ∷ [])

-- no text stands twice
abbrev pub HasNoRepeats : List (List ℕ) → Type 0
HasNoRepeats names = IsDistinct bytes_eq names

-- the text has this number, and no other one
pub record IsNumberOf (names : List (List ℕ)) (text : List ℕ) (number : ℕ) : Type 0 where
  pub here : slice_get names number ≡ Some text
  pub alone : (n : ℕ) → slice_get names n ≡ Some text → n ≡ number

-- the old names stand in front in their order, and at most so many new ones behind them
pub record AddsAtMost (old new : List (List ℕ)) (most : ℕ) : Type 0 where
  pub more : List (List ℕ)
  pub behind : new ≡ old ++ more
  pub few : length more ≤ most
