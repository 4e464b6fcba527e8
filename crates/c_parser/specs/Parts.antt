-- What the readers of parts give, seen by the reader over lists of symbols, and where the parts stand.
use Rattle.std.specs.Prelude.{◌≡◌, ℕ, List, Option, None, Some, Result, Ok, Err, length}
use Rattle.c_tree.specs.declared.punctuator.Punctuator.{Punctuator}
use Rattle.c_tree.specs.declared.token.Token.{Token}
use Rattle.c_tree.specs.Symbol.{Symbol, symbols_of}
use Rattle.c_tree.specs.Syntax.{MaybeSyntax}
use Rattle.c_tree.specs.Views.{option_node, nodes_of}
use Rattle.c_tree.specs.Height.{height_maybe}
use Rattle.c_tree.specs.Forget.{maybe_view}
use Rattle.c_grammar.specs.CPlaces.Lines.{sign, ◌⨾◌, maybe_line, row_line, list_line}
use Rattle.c_grammar.specs.CPlaces.Stands.{Stands}
use Rattle.c_expr.specs.declared.fault.ExprFault.{ExprFault}
use Rattle.c_expr.specs.declared.fault.ExprFault.TheVariants.{NoTree}
use Rattle.c_expr.specs.declared.nodes.ReadList.{ReadList}
use Rattle.c_parser.specs.declared.parts.MaybeRead.{MaybeRead}

-- a tree or none, and what follows, or no such phrase; where memory runs out, nothing is said
abbrev pub GivesMaybe : Result MaybeRead ExprFault → Option (MaybeSyntax × List Symbol) → Type 0
GivesMaybe (Ok r) found = (found ≡ Some (maybe_view r.tree, symbols_of r.rest.now)) × (r.height ≡ height_maybe (maybe_view r.tree))
GivesMaybe (Err e) found = e ≡ NoTree → found ≡ None

abbrev pub left_by_maybe : Result MaybeRead ExprFault → ℕ
left_by_maybe (Ok r) = length r.rest.now
left_by_maybe (Err e) = 0

-- a tree or none, and this punctuator behind it
abbrev pub OverMaybe : Result MaybeRead ExprFault → Punctuator → ℕ → ℕ → List Token → Type 0
OverMaybe (Ok r) p low high ts = Stands (maybe_line (option_node r.tree) ⨾ sign p) low high ts r.rest.now
OverMaybe (Err e) p low high ts = Unit {0}

-- nodes one after the other, up to this punctuator
abbrev pub OverRowUpTo : Result ReadList ExprFault → Punctuator → ℕ → ℕ → List Token → Type 0
OverRowUpTo (Ok r) p low high ts = Stands (row_line (nodes_of r.trees) ⨾ sign p) low high ts r.rest.now
OverRowUpTo (Err e) p low high ts = Unit {0}

-- nodes with commas between, up to this punctuator
abbrev pub OverListUpTo : Result ReadList ExprFault → Punctuator → ℕ → ℕ → List Token → Type 0
OverListUpTo (Ok r) p low high ts = Stands (list_line (nodes_of r.trees) ⨾ sign p) low high ts r.rest.now
OverListUpTo (Err e) p low high ts = Unit {0}
