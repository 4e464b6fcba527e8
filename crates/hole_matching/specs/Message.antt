-- The text of a message (Metal: the action `err`).
use Rattle.std.specs.Prelude.{ℕ, nat_eq, nat_le, List, [], ◌∷◌, ◌++◌, length, take, map, flat_map, Bool, cond, ◌&&◌, Option, codes}
use Rattle.metal_tree.specs.MetalMachines.Machine.{Piece, Bytes, HoleText}
use Rattle.c_objects.specs.Objects.{Object}
use Rattle.c_objects.specs.Text.{text_of, object_text}
use Rattle.c_tree.specs.declared.place.Place.{Place}
use Rattle.c_tree.specs.declared.token.Token.{Token}
use Rattle.c_tree.specs.Forget.{syntax_of}
use Rattle.c_tree.specs.Node.{Node}
use Rattle.c_tree.specs.Tokens.{tokens_of}
use Rattle.type_rules.specs.Options.{if_there}
use Rattle.hole_matching.specs.Holes.{Setting, is_variable}
use Rattle.hole_matching.specs.Matching.{Taken, One, Many, Binding, slot}
use Rattle.c_tree.specs.PathSubjects.Subjects.{Subject, Tree, DerefOf, first_of}

-- What messages are written from: the texts of names by their numbers, and the tokens of the unit.
pub record Source : Type 0 where
  pub names : List (List ℕ)
  pub tokens : List Token

abbrev pub is_at : Place → Token → Bool
is_at p t = nat_eq t.place.file p.file && nat_eq t.place.token p.token

-- the tokens from a place on
abbrev pub from_place : Place → List Token → List Token
from_place p [] = []
from_place p (t ∷ ts) = cond (is_at p t) (t ∷ ts) (from_place p ts)

-- THE TOKENS OF A TREE: those of the unit from its first on, as many as its line of the grammar has
abbrev pub tree_tokens : Source → Node → List Token
tree_tokens w e = take (length (tokens_of (syntax_of e))) (from_place (first_of e) w.tokens)

abbrev pub spelled : Source → List Token → List (List ℕ)
spelled w ts = map (λ t. text_of w.names t.name) ts

-- the spellings of a subject; a `*x` that is read out of `x->f` has `*` before those of `x`
abbrev pub subject_spelled : Source → Subject → List (List ℕ)
subject_spelled w (Tree e) = spelled w (tree_tokens w e)
subject_spelled w (DerefOf x) = codes "*" ∷ spelled w (tree_tokens w x)

abbrev pub later_spelled : Source → List Subject → List (List ℕ)
later_spelled w [] = []
later_spelled w (s ∷ ss) = codes "," ∷ (subject_spelled w s ++ later_spelled w ss)

-- the spellings of arguments, with `,` between them
abbrev pub all_spelled : Source → List Subject → List (List ℕ)
all_spelled w [] = []
all_spelled w (s ∷ ss) = subject_spelled w s ++ later_spelled w ss

abbrev pub taken_spelled : Source → Taken → List (List ℕ)
taken_spelled w (One s) = subject_spelled w s
taken_spelled w (Many ss) = all_spelled w ss

-- texts with one blank between them
abbrev pub spaced : List (List ℕ) → List ℕ
spaced [] = []
spaced (t ∷ []) = t
spaced (t ∷ ts) = t ++ codes " " ++ spaced ts

abbrev pub most_bytes : ℕ
most_bytes = 200

-- what is longer than 200 bytes is its first 200 bytes and `...`
abbrev pub shortened : List ℕ → List ℕ
shortened text = cond (nat_le (length text) most_bytes) text (take most_bytes text ++ codes "...")

abbrev pub object_written : Source → Option Object → List ℕ
object_written w o = if_there o [] (object_text w.names)

abbrev pub slot_written : Source → Option Taken → List ℕ
slot_written w x = if_there x [] (λ y. spaced (taken_spelled w y))

-- the text of a state variable's object, or the spellings of what another hole took
abbrev pub hole_written : Setting → Source → Binding → Option Object → ℕ → List ℕ
hole_written g w b o n = cond (is_variable g n) (object_written w o) (slot_written w (slot n b))

abbrev pub piece_written : Setting → Source → Binding → Option Object → Piece → List ℕ
piece_written g w b o (Bytes bytes) = bytes
piece_written g w b o (HoleText n) = shortened (hole_written g w b o n)

-- THE MESSAGE of these pieces
abbrev pub message : Setting → Source → List Piece → Binding → Option Object → List ℕ
message g w pieces b o = flat_map (piece_written g w b o) pieces
