-- Where the groups end that are still open, seen from the right.
use Rattle.std.specs.Prelude.{◌≡◌, ◌+◌, ◌<◌, ℕ, List, length, drop, Option, None, Some, slice_get}
use Rattle.c_tree.specs.declared.token.Token.{Token}
use Rattle.c_lexer.specs.CReading.Strip.{group_end, group_len}

-- a group with so many more open in it ends where this many tokens stand behind, or doesn't end
abbrev pub EndsAt : List Token → ℕ → Option ℕ → Type 0
EndsAt rest inner None = group_end inner rest ≡ None
EndsAt rest inner (Some behind) = (n : ℕ) × (group_end inner rest ≡ Some n) × (n + behind ≡ length rest)

-- for each number of open groups there is an end, as far as groups end
abbrev pub AreEnds : List Token → List ℕ → Type 0
AreEnds rest ends = (inner : ℕ) → EndsAt rest inner (slice_get ends inner)

-- for each token, the length of the group that begins there
pub record AreGroups (ts : List Token) (groups : List (Option ℕ)) : Type 0 where
  pub count : length groups ≡ length ts
  pub each : (k : ℕ) → k < length ts → slice_get groups k ≡ Some (group_len (drop k ts))
