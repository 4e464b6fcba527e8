-- The pieces of the text of an object, and what each of them is.
use Rattle.std.specs.Prelude.{ℕ, List, [], ◌∷◌, ◌++◌, reverse, Bool, cond, codes, ◌≡◌}
use Rattle.std.specs.Fmt.{decimal}
use Rattle.c_objects.specs.Objects.{Selector, Deref, Field, At, AtVar, Object}
use Rattle.c_objects.specs.Text.{text_of, is_last_star}
use Rattle.type_rules.specs.Vars.{CVar, Extern, FileStatic, LocalStatic, Param, Local, Result, Called}
use Rattle.objects.specs.declared.pieces.Piece.{Piece}
use Rattle.objects.specs.declared.pieces.Piece.TheVariants as piece

abbrev pub piece_text : List (List ℕ) → Piece → List ℕ
piece_text names piece.Star = codes "*"
piece_text names piece.Address = codes "&"
piece_text names piece.Open = codes "("
piece_text names piece.Close = codes ")"
piece_text names piece.Dot = codes "."
piece_text names piece.Arrow = codes "->"
piece_text names piece.Left = codes "["
piece_text names piece.Right = codes "]"
piece_text names piece.Returned = codes "result"
piece_text names piece.NoArguments = codes "()"
piece_text names (piece.Name n) = text_of names n
piece_text names (piece.Number n) = decimal n

abbrev pub var_pieces : CVar → List Piece
var_pieces (Extern n) = piece.Name n ∷ []
var_pieces (FileStatic f n) = piece.Name n ∷ []
var_pieces (LocalStatic f t n) = piece.Name n ∷ []
var_pieces (Param f t n) = piece.Name n ∷ []
var_pieces (Local f t n) = piece.Name n ∷ []
var_pieces Result = piece.Returned ∷ []
var_pieces (Called f t n) = piece.Name n ∷ piece.NoArguments ∷ []

-- a part before `.`, `->` and `[`
abbrev pub part_pieces : Bool → List Piece → List Piece
part_pieces b pieces = cond b (piece.Open ∷ (pieces ++ (piece.Close ∷ []))) pieces

-- those of a path with its last step first
abbrev pub steps_pieces : CVar → List Selector → List Piece
steps_pieces v [] = var_pieces v
steps_pieces v (Deref ∷ ss) = piece.Star ∷ steps_pieces v ss
steps_pieces v (At n ∷ ss) = part_pieces (is_last_star ss) (steps_pieces v ss) ++ (piece.Left ∷ piece.Number n ∷ piece.Right ∷ [])
steps_pieces v (AtVar i ∷ ss) = part_pieces (is_last_star ss) (steps_pieces v ss) ++ (piece.Left ∷ (var_pieces i ++ (piece.Right ∷ [])))
steps_pieces v (Field f ∷ Deref ∷ ss) = part_pieces (is_last_star ss) (steps_pieces v ss) ++ (piece.Arrow ∷ piece.Name f ∷ [])
steps_pieces v (Field f ∷ ss) = steps_pieces v ss ++ (piece.Dot ∷ piece.Name f ∷ [])

abbrev pub object_pieces : Object → List Piece
object_pieces o = cond o.address (piece.Address ∷ []) [] ++ steps_pieces o.base (reverse o.selectors)

-- what was there, and behind it a beginning of this text
pub record HasBegun (old text new : List ℕ) : Type 0 where
  pub done : List ℕ
  pub left : List ℕ
  pub written : new ≡ old ++ done
  pub whole : text ≡ done ++ left
