-- THE FILES OF A REQUEST in the order in which they are read: the checkers, then the C files. Each has a number within its kind.
use Rattle.std.specs.Prelude.{ℕ, ◌+◌, List, [], ◌∷◌, ◌++◌}
use Rattle.mx_io.specs.Bytes.{Bytes, Words}

pub data Kind : Type 0 where
  CheckerFile : Kind
  SourceFile : Kind

pub record Turn : Type 0 where
  pub kind : Kind
  pub number : ℕ
  pub word : Bytes

abbrev pub numbered : Kind → ℕ → Words → List Turn
numbered kind number [] = []
numbered kind number (word ∷ words) = record { kind = kind; number = number; word = word } ∷ numbered kind (number + 1) words

abbrev pub checker_turn : ℕ → Bytes → Turn
checker_turn number word = record { kind = CheckerFile; number = number; word = word }

abbrev pub source_turn : ℕ → Bytes → Turn
source_turn number word = record { kind = SourceFile; number = number; word = word }

-- by the words of the checkers and those of the C files
abbrev pub turns : Words → Words → List Turn
turns checkers sources = numbered CheckerFile 0 checkers ++ numbered SourceFile 0 sources
