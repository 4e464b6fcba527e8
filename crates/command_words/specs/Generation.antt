-- The words that ask for a generation, and the number of functions that they give.
use Rattle.std.specs.Prelude.{◌≡◌, ℕ, ◌≤◌, Bool, false, ◌&&◌, nat_le, [], ◌∷◌, codes}
use Rattle.std.specs.Fmt.{decimal}
use Rattle.mx_io.specs.Bytes.{Bytes, Words}

-- the word spells a number from 1 to 9999 in decimal, without a zero in front
pub record IsCount (word : Bytes) (n : ℕ) : Type 0 where
  pub spelled : word ≡ decimal n
  pub least : 1 ≤ n
  pub most : n ≤ 9999

-- THE WORDS ASK FOR A GENERATION of so many functions: there are two, `--generate` and the number
pub record IsGeneration (words : Words) (n : ℕ) : Type 0 where
  pub word : Bytes
  pub whole : words ≡ codes "--generate" ∷ word ∷ []
  pub count : IsCount word n

-- the first byte is a digit from `1` to `9`
abbrev pub begins_with_count : Bytes → Bool
begins_with_count [] = false
begins_with_count (b ∷ _) = nat_le 49 b && nat_le b 57
