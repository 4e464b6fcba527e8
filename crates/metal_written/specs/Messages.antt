-- Bytes and pieces of messages that may be missing.
use Rattle.std.specs.Prelude.{◌≡◌, ℕ, Bool, true, false, cond, not, nat_eq, ◌&&◌, ◌||◌, List, [], ◌∷◌, ◌++◌, map, Option, None, Some}
use Rattle.std.specs.Borrow.{Bor}
use Rattle.std.specs.Option.{option_map}
use Rattle.metal_tree.specs.MetalMachines.Machine as machines
use Rattle.metal_grammar.specs.Message.{percent, letter_s, backslash, quote, literal_byte, push_literal, unescaped, behind_backslash, pieces_of, conversion}
use Rattle.metal_tree.specs.declared.messages.Piece.{Piece}
use Rattle.metal_tree.specs.Views.{piece_view}

abbrev pub bytes_in : Option (Bor (List ℕ)) → Option (List ℕ)
bytes_in bytes = option_map (λ b. b.now) bytes

abbrev pub pieces_in : Option (Bor (List Piece)) → Option (List machines.Piece)
pieces_in pieces = option_map (λ p. map piece_view p.now) pieces

-- pieces, and literal bytes behind them, unless there are none
abbrev pub ended : List machines.Piece → List ℕ → List machines.Piece
ended pieces [] = pieces
ended pieces (b ∷ bs) = pieces ++ (machines.Bytes (b ∷ bs) ∷ [])

-- whether a byte behind a backslash is none that is escaped, and whether a byte counts
abbrev pub is_bad : Bool → ℕ → Bool
is_bad behind b = behind && not (nat_eq b backslash) && not (nat_eq b quote)

abbrev pub counts : Bool → ℕ → Bool
counts behind b = behind || not (nat_eq b backslash)

-- what bytes stand for, behind a backslash or not
abbrev pub unescaped_from : Bool → List ℕ → Option (List ℕ)
unescaped_from true bytes = behind_backslash bytes
unescaped_from false bytes = unescaped bytes

-- literal bytes in front of pieces
abbrev pub bytes_before : List ℕ → List machines.Piece → List machines.Piece
bytes_before [] more = more
bytes_before (b ∷ bs) more = literal_byte b (bytes_before bs more)

-- the pieces so far, literal bytes behind them, and those that follow
abbrev pub behind_pieces : List machines.Piece → List ℕ → Option (List machines.Piece) → Option (List machines.Piece)
behind_pieces pieces bytes None = None
behind_pieces pieces bytes (Some more) = Some (pieces ++ bytes_before bytes more)

-- the argument in front, and those behind it
abbrev pub first_of : {A : Type 0} → List A → Option A
first_of [] = None
first_of (x ∷ xs) = Some x

abbrev pub later_arguments : List ℕ → List ℕ
later_arguments [] = []
later_arguments (h ∷ hs) = hs

-- the pieces of bytes, behind a `%` or not
abbrev pub pieces_from : Bool → List ℕ → List ℕ → Option (List machines.Piece)
pieces_from true bytes arguments = conversion bytes arguments
pieces_from false bytes arguments = pieces_of bytes arguments

-- what follows behind an argument, a byte that isn't behind a `%`, and one that is
abbrev pub with_argument : Option ℕ → Option (List machines.Piece) → Option (List machines.Piece)
with_argument None pieces = None
with_argument (Some h) pieces = option_map (λ ps. machines.HoleText h ∷ ps) pieces

abbrev pub directive_without : ℕ → Option (List machines.Piece) → Option (List machines.Piece)
directive_without b pieces = cond (nat_eq b percent) pieces (push_literal b pieces)

abbrev pub directive_behind : Option ℕ → ℕ → Option (List machines.Piece) → Option (List machines.Piece)
directive_behind argument b pieces = cond (nat_eq b letter_s) (with_argument argument pieces) (cond (nat_eq b percent) (push_literal b pieces) None)

abbrev pub directive_of : Bool → Option ℕ → ℕ → Option (List machines.Piece) → Option (List machines.Piece)
directive_of true argument b pieces = directive_behind argument b pieces
directive_of false argument b pieces = directive_without b pieces

-- The pieces and bytes were made longer by a step, after which nothing may follow where it doesn't fit.
abbrev pub IsStep : List machines.Piece → List ℕ → List machines.Piece → List ℕ → Bool → (Option (List machines.Piece) → Option (List machines.Piece)) → Type 0
IsStep old_pieces old_bytes new_pieces new_bytes may step =
    (more : Option (List machines.Piece)) → behind_pieces new_pieces new_bytes (cond may more None) ≡ behind_pieces old_pieces old_bytes (step more)
