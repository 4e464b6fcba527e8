-- Places of tokens that are numbered from 0, as the lexer leaves them.
use Rattle.std.specs.Prelude.{ℕ}
use Rattle.c_tree.specs.declared.place.Place.{Place}

-- the place behind so many tokens of a file
abbrev pub place_in : ℕ → ℕ → Place
place_in file position = record { file = file; token = position }
