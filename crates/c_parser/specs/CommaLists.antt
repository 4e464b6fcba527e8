-- Lists that may have a comma behind the last.
use Rattle.std.specs.Prelude.{◌≡◌, ℕ, Bool, List, Option, None, Some, Result, Ok, Err, length}
use Rattle.c_tree.specs.declared.punctuator.Punctuator.TheVariants as marks
use Rattle.c_tree.specs.declared.token.Token.{Token}
use Rattle.c_tree.specs.Symbol.{Symbol, symbols_of}
use Rattle.c_tree.specs.Syntax.{Syntaxes}
use Rattle.c_tree.specs.Height.{height_in}
use Rattle.c_tree.specs.Forget.{list_view}
use Rattle.c_tree.specs.Views.{nodes_of}
use Rattle.c_grammar.specs.CPlaces.Lines.{sign, comma_if, ◌⨾◌, list_line}
use Rattle.c_grammar.specs.CPlaces.Stands.{Stands}
pub use Rattle.c_expr.specs.ParamLists.{params_after as commas_after}
use Rattle.c_expr.specs.declared.fault.ExprFault.{ExprFault}
use Rattle.c_expr.specs.declared.fault.ExprFault.TheVariants.{NoTree}
use Rattle.c_parser.specs.declared.parts.ReadCommaList.{ReadCommaList}

-- nodes and whether a comma stands behind them, and what follows, or no such list; where memory runs out, nothing is said
abbrev pub GivesCommaList : Result ReadCommaList ExprFault → Option (Syntaxes × Bool × List Symbol) → Type 0
GivesCommaList (Ok r) found = (found ≡ Some (list_view r.trees, r.comma, symbols_of r.rest.now)) × (r.height ≡ height_in (list_view r.trees))
GivesCommaList (Err e) found = e ≡ NoTree → found ≡ None

-- the tokens that are left
abbrev pub left_by_comma_list : Result ReadCommaList ExprFault → ℕ
left_by_comma_list (Ok r) = length r.rest.now
left_by_comma_list (Err e) = 0

-- nodes with commas between, maybe one behind the last, up to a brace
abbrev pub OverCommaList : Result ReadCommaList ExprFault → ℕ → ℕ → List Token → Type 0
OverCommaList (Ok r) low high ts = Stands (list_line (nodes_of r.trees) ⨾ comma_if r.comma ⨾ sign marks.CloseBrace) low high ts r.rest.now
OverCommaList (Err e) low high ts = Unit {0}
