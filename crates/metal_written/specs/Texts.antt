-- The contents of strings, and their numbers.
use Rattle.std.specs.Prelude.{◌≡◌, ℕ, ◌<◌, List, [], ◌∷◌, drop, length, slice_get, Some}
use Rattle.indexmap.specs.IndexMap.{get}
pub use Rattle.c_tree.specs.Tables.{same_key}
use Rattle.c_tree.specs.declared.token.Token.{Token}
use Rattle.metal_written.specs.declared.texts.Texts.{Texts}
use Rattle.metal_grammar.specs.Words.{Spelling, spelled, name_spelled, all_but_last}

-- the contents of the string with this name, behind so many bytes
abbrev pub contents_behind : Spelling → ℕ × ℕ → List ℕ
contents_behind spelling k = all_but_last (drop k.1 (spelled spelling k.0))

-- The string is a name, and this number is that of its contents, which are a name too.
pub record IsRight (spelling : Spelling) (k : ℕ × ℕ) (n : ℕ) : Type 0 where
  pub below : k.0 < length spelling
  pub here : slice_get spelling n ≡ Some (contents_behind spelling k)
  pub number : n ≡ name_spelled spelling (contents_behind spelling k)

-- each number that is kept is right
abbrev pub AreRight : Spelling → Texts → Type 0
AreRight spelling texts = (k : ℕ × ℕ) (n : ℕ) → get same_key texts.numbers k ≡ Some n → IsRight spelling k n

-- The names of all tokens are among so many.
abbrev pub AreBelow : ℕ → List Token → Type 0
AreBelow count [] = Unit {0}
AreBelow count (t ∷ ts) = (t.name < count) × AreBelow count ts
