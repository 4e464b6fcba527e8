-- What the readers of parts of statements count, and where these parts stand.
use Rattle.std.specs.Prelude.{ℕ, List, Result, Ok, Err}
use Rattle.c_tree.specs.declared.punctuator.Punctuator.TheVariants as marks
use Rattle.c_tree.specs.declared.token.Token.{Token}
use Rattle.c_tree.specs.Views.{node_of}
use Rattle.c_grammar.specs.CPlaces.Lines.{sign, ◌⨾◌, line_of}
use Rattle.c_grammar.specs.CPlaces.Stands.{Stands}
use Rattle.c_expr.specs.declared.fault.ExprFault.{ExprFault}
use Rattle.c_expr.specs.declared.nodes.Read.{Read}
use Rattle.c_parser.specs.declared.parts.MaybeRead.{MaybeRead}

-- 1 for what is read
abbrev pub done_by_maybe : Result MaybeRead ExprFault → ℕ
done_by_maybe (Ok r) = 1
done_by_maybe (Err e) = 0

-- an expression in parentheses
abbrev pub OverCondition : Result Read ExprFault → ℕ → ℕ → List Token → Type 0
OverCondition (Ok r) low high ts = Stands (sign marks.OpenParen ⨾ line_of (node_of r.tree.now) ⨾ sign marks.CloseParen) low high ts r.rest.now
OverCondition (Err e) low high ts = Unit {0}
