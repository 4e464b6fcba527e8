-- Where structures, unions, enumerations and members stand.
use Rattle.std.proofs.Common.{◌≡◌, ℕ, Bool, List, Option, None, Some, Result, sym, subst}
use Rattle.c_tree.specs.declared.keyword.Keyword.{Keyword}
use Rattle.c_tree.specs.declared.punctuator.Punctuator.TheVariants as marks
use Rattle.c_tree.specs.declared.token.Token.{Token}
use Rattle.c_tree.specs.Symbol.{Sign, Reserved}
use Rattle.c_tree.specs.Node.{Node, Nodes}
use Rattle.c_grammar.specs.CPlaces.Lines.{sign, keyword, ◌⨾◌, line_of, row_line, list_line, comma_if, tag_if}
use Rattle.c_grammar.specs.CPlaces.Stands.{Stands, OfNothing, OfBoth, StandsOver}
use Rattle.c_expr.specs.declared.fault.ExprFault.{ExprFault}
use Rattle.c_expr.specs.declared.nodes.Read.{Read}
use Rattle.c_expr.specs.Standing.{Over, Passes, Keeps}
use Rattle.c_parser.specs.Tags.{Opens}

-- a brace with a tag before it or without one
pub bare-opens : (ts rest : List Token) → Passes (Sign marks.OpenBrace) ts rest → Opens None ts rest
bare-opens ts rest p low = OfBoth OfNothing (p low)

pub tag-opens : (tag : Token) (ts us rest : List Token) → Keeps tag ts us → Passes (Sign marks.OpenBrace) us rest → Opens (Some tag) ts rest
tag-opens tag ts us rest k p low = OfBoth (k low) (p low)

opened : (word : Keyword) (tag : Option Token) (low : ℕ) (ts us rest : List Token) → Passes (Reserved word) ts us → Stands (tag_if tag ⨾ sign marks.OpenBrace) low low us rest → Stands (keyword word ⨾ tag_if tag ⨾ sign marks.OpenBrace) low low ts rest
opened word tag low ts us rest p (OfBoth t o) = OfBoth (OfBoth (p low) t) o

pub struct-behind : (word : Keyword) (tag : Option Token) (ns : Nodes) (low high : ℕ) (ts us vs rest : List Token) → Passes (Reserved word) ts us → Opens tag us vs
    → Stands (row_line ns ⨾ sign marks.CloseBrace) low high vs rest → Stands (keyword word ⨾ tag_if tag ⨾ sign marks.OpenBrace ⨾ row_line ns ⨾ sign marks.CloseBrace) low high ts rest
struct-behind word tag ns low high ts us vs rest p o (OfBoth r c) = OfBoth (OfBoth (opened word tag low ts us vs p (o low)) r) c

pub enum-behind : (word : Keyword) (tag : Option Token) (ns : Nodes) (comma : Bool) (low high : ℕ) (ts us vs rest : List Token) → Passes (Reserved word) ts us → Opens tag us vs
    → Stands (list_line ns ⨾ comma_if comma ⨾ sign marks.CloseBrace) low high vs rest → Stands (keyword word ⨾ tag_if tag ⨾ sign marks.OpenBrace ⨾ list_line ns ⨾ comma_if comma ⨾ sign marks.CloseBrace) low high ts rest
enum-behind word tag ns comma low high ts us vs rest p o (OfBoth (OfBoth l k) c) = OfBoth (OfBoth (OfBoth (opened word tag low ts us vs p (o low)) l) k) c

-- declarators behind their specifiers
pub list-behind : (specs : Node) (ns : Nodes) (low middle high : ℕ) (ts us rest : List Token) → StandsOver specs low middle ts us → Stands (list_line ns ⨾ sign marks.Semicolon) middle high us rest → Stands (line_of specs ⨾ list_line ns ⨾ sign marks.Semicolon) low high ts rest
list-behind specs ns low middle high ts us rest s (OfBoth l c) = OfBoth (OfBoth s l) c

-- what was read, over the same tokens
pub stands-same : (r : Result Read ExprFault) (low high : ℕ) (ts us : List Token) → ts ≡ us → Over r low high us → Over r low high ts
stands-same r low high ts us e s = subst (λ xs. Over r low high xs) (sym e) s
