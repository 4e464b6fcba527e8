-- The message of an action: literal bytes, and holes whose text stands in its place.
use Rattle.std.specs.Prelude.{ℕ, cond, nat_eq, ◌||◌, List, [], ◌∷◌, flat_map, Option, None, Some, option_map}
use Rattle.metal_tree.specs.MetalMachines.Machine.{Piece, Bytes, HoleText}
use Rattle.metal_grammar.specs.Words.{Spelling, contents_of}
use Rattle.metal_grammar.specs.Written.{members, WrittenAction}

-- the bytes that stand for more than themselves: `%`, the `s` behind it, `\` and `"`
abbrev pub percent : ℕ
percent = 37

abbrev pub letter_s : ℕ
letter_s = 115

abbrev pub backslash : ℕ
backslash = 92

abbrev pub quote : ℕ
quote = 34

-- a byte in front of bytes, and a literal byte in front of pieces
abbrev pub push : ℕ → Option (List ℕ) → Option (List ℕ)
push b bytes = option_map (λ bs. b ∷ bs) bytes

abbrev pub literal_byte : ℕ → List Piece → List Piece
literal_byte b (Bytes bs ∷ pieces) = Bytes (b ∷ bs) ∷ pieces
literal_byte b pieces = Bytes (b ∷ []) ∷ pieces

abbrev pub push_literal : ℕ → Option (List Piece) → Option (List Piece)
push_literal b pieces = option_map (literal_byte b) pieces

-- the text of the first argument in front of the pieces with the others
abbrev pub push_argument : List ℕ → (List ℕ → Option (List Piece)) → Option (List Piece)
push_argument [] pieces = None
push_argument (h ∷ hs) pieces = option_map (λ ps. HoleText h ∷ ps) (pieces hs)

-- THE BYTES that the contents of a literal stand for: `\\` is `\`, `\"` is `"`, there is no other `\`, and every other byte is itself.
abbrev mutual
  pub unescaped : List ℕ → Option (List ℕ)
  unescaped [] = Some []
  unescaped (b ∷ bs) = cond (nat_eq b backslash) (behind_backslash bs) (push b (unescaped bs))

  pub behind_backslash : List ℕ → Option (List ℕ)
  behind_backslash [] = None
  behind_backslash (b ∷ bs) = cond (nat_eq b backslash || nat_eq b quote) (push b (unescaped bs)) None

-- THE PIECES of a message with these arguments: `%s` is the next argument, `%%` is `%`, there is no other `%`, and every other byte
-- is itself. All arguments are used.
abbrev mutual
  pub pieces_of : List ℕ → List ℕ → Option (List Piece)
  pieces_of [] [] = Some []
  pieces_of [] (h ∷ hs) = None
  pieces_of (b ∷ bs) arguments = cond (nat_eq b percent) (conversion bs arguments) (push_literal b (pieces_of bs arguments))

  pub conversion : List ℕ → List ℕ → Option (List Piece)
  conversion [] arguments = None
  conversion (b ∷ bs) arguments =
      cond (nat_eq b letter_s) (push_argument arguments (λ others. pieces_of bs others))
      (cond (nat_eq b percent) (push_literal b (pieces_of bs arguments)) None)

abbrev pub maybe_pieces : Option (List ℕ) → List ℕ → Option (List Piece)
maybe_pieces None arguments = None
maybe_pieces (Some bytes) arguments = pieces_of bytes arguments

-- the pieces of an action, whose literals are joined first, with these arguments
abbrev pub message_with : Spelling → WrittenAction → List ℕ → Option (List Piece)
message_with spelling a arguments = maybe_pieces (unescaped (flat_map (contents_of spelling) (members a.literals))) arguments
