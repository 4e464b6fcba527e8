-- What is left of a text that could not be appended whole.
use Rattle.std.specs.Prelude.{◌≡◌, ℕ, List, ◌++◌}

-- what was there, and behind it a beginning of this text
pub record HasBegun (old text new : List ℕ) : Type 0 where
  pub done : List ℕ
  pub left : List ℕ
  pub written : new ≡ old ++ done
  pub whole : text ≡ done ++ left
