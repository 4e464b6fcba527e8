-- The lines of a table of basic types.
use Rattle.std.specs.Prelude.{List, map}
use Rattle.std.specs.Borrow.{Bor}
use Rattle.c_tree.specs.declared.keyword.Keyword.{Keyword}
use Rattle.type_rules.specs.Types.{CType, Void, Arith, VaList}
use Rattle.type_values.specs.Types.{arithmetic_of}
use Rattle.type_values.specs.declared.basic_types.basic.Basic.{Basic}
use Rattle.type_values.specs.declared.basic_types.basic.Basic.TheVariants as basic

abbrev pub basic_of : Basic → CType
basic_of basic.Void = Void
basic_of (basic.Arith k) = Arith (arithmetic_of k)
basic_of basic.VaList = VaList

-- its lists of words alone
abbrev pub words_of : List (Bor (List Keyword) × Basic) → List (List Keyword)
words_of table = map (λ line. line.0.now) table

abbrev pub lines_of : List (Bor (List Keyword) × Basic) → List (List Keyword × CType)
lines_of table = map (λ line. (line.0.now, basic_of line.1)) table
