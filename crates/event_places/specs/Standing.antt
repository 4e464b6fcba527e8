-- Texts whose trees stand over their tokens, and whose tables are those of their trees: what is known of the texts of files.
use Rattle.std.specs.Prelude.{◌≡◌, ℕ, List, None, Some, slice_get}
use Rattle.c_tree.specs.TokenPlaces.{StandInFile}
use Rattle.type_rules.specs.Definition.{first_fault}
use Rattle.type_rules.specs.Unit.{places_of, table_by}
use Rattle.typed_unit.specs.Places.{StandOver}
use Rattle.typed_unit.specs.Texts.{Text}

-- the tokens stand in the file with this number, one after the other, and the trees stand over them
pub record StandsIn (file : ℕ) (t : Text) : Type 0 where
  pub placed : StandInFile file t.tokens
  pub standing : StandOver t.trees t.tokens

-- each text stands in the file with its position
abbrev pub StandInFiles : List Text → Type 0
StandInFiles ts = (file : ℕ) (t : Text) → slice_get ts file ≡ Some t → StandsIn file t

-- each has the table that typing gives its trees
abbrev pub HaveTheirTables : List Text → Type 0
HaveTheirTables ts = (file : ℕ) (t : Text) → slice_get ts file ≡ Some t → t.table ≡ table_by t.trees

-- and each has types
abbrev pub AreTyped : List Text → Type 0
AreTyped ts = (file : ℕ) (t : Text) → slice_get ts file ≡ Some t → first_fault (places_of t.trees) ≡ None
