-- The words and strings of a checker. Its words are plain names, told apart by how they are spelled.
use Rattle.std.specs.Prelude.{ℕ, suc, Bool, cond, List, [], ◌∷◌, drop, get_or, bytes_eq}

-- the bytes of each name, by its number
abbrev pub Spelling : Type 0
Spelling = List (List ℕ)

abbrev pub spelled : Spelling → ℕ → List ℕ
spelled spelling name = get_or spelling name []

-- this name is spelled so
abbrev pub is_spelled : Spelling → List ℕ → ℕ → Bool
is_spelled spelling text name = bytes_eq (spelled spelling name) text

-- the number of the name that is spelled so; where there is none, the count of names
abbrev pub name_spelled : Spelling → List ℕ → ℕ
name_spelled [] text = 0
name_spelled (s ∷ ss) text = cond (bytes_eq s text) 0 (suc (name_spelled ss text))

-- a string literal: whether an `L` stands before it, and the number of its whole spelling
pub record Literal : Type 0 where
  pub wide : Bool
  pub name : ℕ

abbrev pub all_but_last : List ℕ → List ℕ
all_but_last [] = []
all_but_last (b ∷ []) = []
all_but_last (b ∷ c ∷ bs) = b ∷ all_but_last (c ∷ bs)

-- the bytes between its quotes, as they stand
abbrev pub contents_of : Spelling → Literal → List ℕ
contents_of spelling literal = all_but_last (drop (cond literal.wide 2 1) (spelled spelling literal.name))
