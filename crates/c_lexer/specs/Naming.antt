-- How names are numbered: in the order in which a reading meets them.
use Rattle.std.specs.Prelude.{ℕ, true, List, [], ◌∷◌, Option, None, Some}
use Rattle.mx_base.specs.Names.{names_after}
use Rattle.c_lexer.specs.CReading.Markers.{Marker, Renumbers, marker_of}
use Rattle.c_lexer.specs.CReading.Pieces.{Piece, MarkerLine, Spelling}

-- the file that a marker names
abbrev pub file_in : Option Marker → Option (List ℕ)
file_in (Some (Renumbers line file)) = file
file_in _ = None

-- the text that a piece makes a name
abbrev pub text_named : Piece → Option (List ℕ)
text_named (Spelling text) = Some text
text_named (MarkerLine text true) = file_in (marker_of text)
text_named _ = None

-- the names with one more, unless it is among them
abbrev pub with_name : List (List ℕ) → Option (List ℕ) → List (List ℕ)
with_name names None = names
with_name names (Some text) = names_after names text

-- the names behind these pieces
abbrev pub named_by : List (List ℕ) → List Piece → List (List ℕ)
named_by names [] = names
named_by names (p ∷ ps) = named_by (with_name names (text_named p)) ps
