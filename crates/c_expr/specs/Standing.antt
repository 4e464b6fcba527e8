-- Where trees that were read stand: over the tokens that were read, with the places of these and numbers that go up.
use Rattle.std.specs.Prelude.{◌≡◌, ℕ, ◌+◌, List, ◌∷◌, Result, Ok, Err}
use Rattle.c_tree.specs.declared.operator.UnaryOp.{UnaryOp}
use Rattle.c_tree.specs.declared.place.Place.{Place}
use Rattle.c_tree.specs.declared.punctuator.Punctuator.TheVariants as marks
use Rattle.c_tree.specs.declared.token.Token.{Token}
use Rattle.c_tree.specs.Symbol.{Symbol}
use Rattle.c_tree.specs.Node.{Node, node, Shape}
use Rattle.c_tree.specs.Views.{node_of, nodes_of}
use Rattle.c_grammar.specs.CPlaces.Lines.{Line, fixed, kept, all_kept, sign, unary_line, ◌⨾◌, row_line, list_line, ellipsis_if}
use Rattle.c_grammar.specs.CPlaces.Stands.{Stands, StandsOver}
use Rattle.c_expr.specs.declared.fault.ExprFault.{ExprFault}
use Rattle.c_expr.specs.declared.nodes.Read.{Read}
use Rattle.c_expr.specs.declared.nodes.ReadList.{ReadList}
use Rattle.c_expr.specs.declared.params.ReadParams.{ReadParams}

-- What was read stands over these tokens up to its rest; its numbers are at least `low` and below `high`.
abbrev pub Over : Result Read ExprFault → ℕ → ℕ → List Token → Type 0
Over (Ok r) low high ts = StandsOver (node_of r.tree.now) low high ts r.rest.now
Over (Err e) low high ts = Unit {0}

-- The same of a tree that begins with this one, which stands up to `rest`.
abbrev pub OverBehind : Result Read ExprFault → Node → ℕ → ℕ → List Token → Type 0
OverBehind r n old new rest = (low : ℕ) (ts : List Token) → StandsOver n low old ts rest → Over r low new ts

-- nodes one after the other
abbrev pub OverRow : Result ReadList ExprFault → ℕ → ℕ → List Token → Type 0
OverRow (Ok r) low high ts = Stands (row_line (nodes_of r.trees)) low high ts r.rest.now
OverRow (Err e) low high ts = Unit {0}

-- the same up to a parenthesis
abbrev pub OverPath : Result ReadList ExprFault → ℕ → ℕ → List Token → Type 0
OverPath (Ok r) low high ts = Stands (row_line (nodes_of r.trees) ⨾ sign marks.CloseParen) low high ts r.rest.now
OverPath (Err e) low high ts = Unit {0}

-- nodes with commas between, up to a parenthesis
abbrev pub OverArguments : Result ReadList ExprFault → ℕ → ℕ → List Token → Type 0
OverArguments (Ok r) low high ts = Stands (list_line (nodes_of r.trees) ⨾ sign marks.CloseParen) low high ts r.rest.now
OverArguments (Err e) low high ts = Unit {0}

abbrev pub OverParams : Result ReadParams ExprFault → ℕ → ℕ → List Token → Type 0
OverParams (Ok r) low high ts = Stands (list_line (nodes_of r.trees) ⨾ ellipsis_if r.variadic ⨾ sign marks.CloseParen) low high ts r.rest.now
OverParams (Err e) low high ts = Unit {0}

-- A node of this shape, with the next number, was made in front of `rest`.
abbrev pub IsMade : Read → ℕ → ℕ → Place → Shape → List Token → Type 0
IsMade r old new first shape rest = (node_of r.tree.now ≡ node old first shape) × (new ≡ old + 1) × (r.rest.now ≡ rest)

abbrev pub Makes : Result Read ExprFault → ℕ → ℕ → Place → Shape → List Token → Type 0
Makes (Ok r) old new first shape rest = IsMade r old new first shape rest
Makes (Err e) old new first shape rest = Unit {0}

-- This symbol stands in front, and `rest` follows it.
abbrev pub Passes : Symbol → List Token → List Token → Type 0
Passes s ts rest = (low : ℕ) → Stands (fixed s) low low ts rest

-- This token stands in front, and `rest` follows it.
abbrev pub Keeps : Token → List Token → List Token → Type 0
Keeps t ts rest = (low : ℕ) → Stands (kept t) low low ts rest

-- These tokens stand in front, and `rest` follows them.
abbrev pub KeepsAll : List Token → List Token → List Token → Type 0
KeepsAll us ts rest = (low : ℕ) → Stands (all_kept us) low low ts rest

-- This operator stands before its operand, which begins at `rest`.
abbrev pub Leads : UnaryOp → List Token → List Token → Type 0
Leads op ts rest = (l : Line) (low high : ℕ) (end : List Token) → Stands l low high rest end → Stands (unary_line op l) low high ts end

-- This is the place of the token in front, if there is one.
abbrev pub IsFirst : Place → List Token → Type 0
IsFirst first ts = (t : Token) (rest : List Token) → ts ≡ t ∷ rest → first ≡ t.place
