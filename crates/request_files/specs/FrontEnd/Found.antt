-- Where a fault is found: at a token, or behind the longest beginning that can be read.
use Rattle.std.specs.Prelude.{◌≡◌, ℕ, List, [], ◌∷◌, Some, slice_get}
use Rattle.c_tree.specs.declared.token.Token.{Token}
use Rattle.c_lexer.specs.declared.c_reading.fault.Fault as reading
use Rattle.c_lexer.specs.declared.c_reading.mode.Mode.{Mode}
use Rattle.c_lexer.specs.CReading.Pieces.{Piece, beginning, behind_all}
use Rattle.c_lexer.specs.CReading.Reading.{IsFaulty}
use Rattle.c_lexer.specs.Tokens.{TokenList, position_of}
use Rattle.c_lexer.specs.declared.fault.Spot.{Spot}
use Rattle.mx_io.specs.Bytes.{Bytes}
use Rattle.request_files.specs.declared.fault.Fault.{Fault}
use Rattle.request_files.specs.declared.front_end.refusal.Faulty.{Faulty}
use Rattle.request_files.specs.FrontEnd.Faults.{of_reading}

-- the bytes have no reading, and this is wrong behind the longest beginning that can be cut
pub record HasNoTokens (mode : Mode) (word : Bytes) (names : List Bytes) (bytes : Bytes) (found : Faulty) : Type 0 where
  pub pieces : List Piece
  pub kind : reading.Fault
  pub faulty : IsFaulty mode word pieces bytes kind
  pub fault : found.fault ≡ of_reading kind
  pub file : slice_get names found.source ≡ Some (behind_all (beginning word) pieces).file
  pub line : found.line ≡ (behind_all (beginning word) pieces).line

-- this fault, on this line of this presumed file
abbrev pub on_line : Fault → ℕ × ℕ → Faulty
on_line fault there = record { fault = fault; source = there.0; line = there.1 }

-- the presumed file and line of the first of these tokens; of the end where there is none
abbrev pub line_of_first : List Token → Spot → ℕ × ℕ
line_of_first [] end = (end.source, end.line)
line_of_first (t ∷ ts) end = (t.source, t.line)

-- this fault, at the first of these tokens; at the end where there is none
abbrev pub stands_first : Fault → List Token → Spot → Faulty
stands_first fault tokens end = on_line fault (line_of_first tokens end)

-- this fault, at the token with this number; at the end where there is no such token
abbrev pub stands_at : TokenList → Fault → ℕ → Faulty
stands_at list fault number = record { fault = fault; source = (position_of list.all list.end number).0; line = (position_of list.all list.end number).1 }
