-- The table of callouts: which row a written callout is.
use Rattle.std.specs.Prelude.{ℕ, cond, codes, List, [], ◌∷◌, Option, None, Some}
use Rattle.c_tree.specs.Tables.{find_text}
use Rattle.c_tree.specs.Symbol.{Symbol, IntLiteral}
use Rattle.metal_tree.specs.MetalMachines.Machine.{CalloutRow, IsConst, IsGlobal, IsParam, IsLocal, NameIs, InFunction, NeverHolds, AlwaysHolds}
use Rattle.metal_grammar.specs.Words.{Spelling, Literal, spelled, is_spelled, name_spelled, contents_of}
use Rattle.metal_grammar.specs.Written.{Name, Text, WrittenCallout, Digit, Asked}

-- names, each with its row
abbrev pub Rows : Type 0
Rows = List (List ℕ × CalloutRow)

-- those that ask of a hole alone
abbrev pub hole_rows : Rows
hole_rows =
    (codes "mc_is_const", IsConst)
    ∷ (codes "mc_is_global", IsGlobal)
    ∷ (codes "mc_is_param", IsParam)
    ∷ (codes "mc_is_local", IsLocal)
    ∷ []

-- of a hole and a text
abbrev pub both_rows : Rows
both_rows = (codes "mc_name_is", NameIs) ∷ []

-- of a text alone
abbrev pub text_rows : Rows
text_rows = (codes "mc_in_function", InFunction) ∷ []

abbrev pub row_of_hole : Spelling → ℕ → Option CalloutRow
row_of_hole spelling name = find_text (spelled spelling name) hole_rows

abbrev pub row_of_both : Spelling → ℕ → Option CalloutRow
row_of_both spelling name = find_text (spelled spelling name) both_rows

abbrev pub row_of_text : Spelling → ℕ → Option CalloutRow
row_of_text spelling name = find_text (spelled spelling name) text_rows

-- `0` never holds, and `1` always does
abbrev pub row_of_digit : Spelling → Symbol → Option CalloutRow
row_of_digit spelling (IntLiteral value name) = cond (is_spelled spelling (codes "0") name) (Some NeverHolds) (Some AlwaysHolds)
row_of_digit spelling _ = None

-- the row of a callout, whose arguments are as many as the row's and of its kinds
abbrev pub row_of : Spelling → WrittenCallout → Option CalloutRow
row_of spelling (Digit digit) = row_of_digit spelling digit
row_of spelling (Asked name (Name hole) None) = row_of_hole spelling name
row_of spelling (Asked name (Name hole) (Some text)) = row_of_both spelling name
row_of spelling (Asked name (Text text) None) = row_of_text spelling name
row_of spelling (Asked name (Text text) (Some other)) = None

-- the name of the hole that a callout asks of
abbrev pub hole_asked : WrittenCallout → Option ℕ
hole_asked (Asked name (Name hole) text) = Some hole
hole_asked _ = None

-- the string that it asks of
abbrev pub literal_asked : WrittenCallout → Option Literal
literal_asked (Digit digit) = None
literal_asked (Asked name (Name hole) text) = text
literal_asked (Asked name (Text text) other) = Some text

-- The text that it asks of, as a name: the bytes between the quotes. It is 0 where the callout has none.
abbrev pub text_asked : Spelling → WrittenCallout → ℕ
text_asked spelling (Asked name (Name hole) (Some text)) = name_spelled spelling (contents_of spelling text)
text_asked spelling (Asked name (Text text) other) = name_spelled spelling (contents_of spelling text)
text_asked spelling _ = 0
