-- Where tags stand.
use Rattle.std.specs.Prelude.{ℕ, List, Option}
use Rattle.c_tree.specs.declared.punctuator.Punctuator.TheVariants as marks
use Rattle.c_tree.specs.declared.token.Token.{Token}
use Rattle.c_grammar.specs.CPlaces.Lines.{sign, ◌⨾◌, tag_if}
use Rattle.c_grammar.specs.CPlaces.Stands.{Stands}

-- A tag, if there is one, and a brace stand in front, and `rest` follows them.
abbrev pub Opens : Option Token → List Token → List Token → Type 0
Opens tag ts rest = (low : ℕ) → Stands (tag_if tag ⨾ sign marks.OpenBrace) low low ts rest
