-- Where declarations and functions stand, behind their specifiers and the first declarator.
use Rattle.std.specs.Prelude.{ℕ, List, Result}
use Rattle.c_tree.specs.declared.token.Token.{Token}
use Rattle.c_tree.specs.Node.{Node}
use Rattle.c_grammar.specs.CPlaces.Lines.{◌⨾◌, line_of}
use Rattle.c_grammar.specs.CPlaces.Stands.{Stands}
use Rattle.c_expr.specs.declared.fault.ExprFault.{ExprFault}
use Rattle.c_expr.specs.declared.nodes.Read.{Read}
use Rattle.c_expr.specs.Standing.{Over}

-- What was read begins with these two nodes, which stand up to `rest`.
abbrev pub OverBoth : Result Read ExprFault → Node → Node → ℕ → ℕ → List Token → Type 0
OverBoth r a b old new rest = (low : ℕ) (ts : List Token) → Stands (line_of a ⨾ line_of b) low old ts rest → Over r low new ts
