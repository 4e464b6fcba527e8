-- Where initial values, declarations and functions stand, and what they declare.
use Rattle.std.proofs.Common.{◌≡◌, ℕ, ◌+◌, Bool, IfOk, List, [], ◌∷◌, ◌++◌, Option, Some, Result, Ok, Err, ap, ◌∙◌, sym, subst, arith}
use Rattle.c_tree.specs.declared.place.Place.{Place}
use Rattle.c_tree.specs.declared.punctuator.Punctuator.TheVariants as marks
use Rattle.c_tree.specs.declared.token.Token.{Token}
use Rattle.c_tree.specs.declared.tree.Tree.{Tree}
use Rattle.c_tree.specs.declared.tree.Trees.{Trees}
use Rattle.c_tree.specs.Symbol.{Sign}
use Rattle.c_tree.specs.Syntax.{Syntaxes}
use Rattle.c_tree.specs.Forget.{syntax_of, shape_syntax, view}
use Rattle.c_tree.specs.Node.{Node, node, Shape, Nodes}
use Rattle.c_tree.specs.Node as nodes
use Rattle.c_tree.specs.Views.{node_of, nodes_of, nodes_in}
use Rattle.c_grammar.specs.CPlaces.Lines.{Line, at, names, sign, comma_if, ◌⨾◌, line_of, list_line}
use Rattle.c_grammar.specs.CPlaces.Stands.{Stands, OfNothing, OfName, OfBoth, StandsOver}
use Rattle.c_grammar.specs.Names.{Names, name_of, with_name}
use Rattle.c_grammar.specs.UnitGrammar.Names.{declared, declared_name, with_declarators}
use Rattle.c_expr.specs.declared.fault.ExprFault.{ExprFault}
use Rattle.c_expr.specs.declared.nodes.Read.{Read}
use Rattle.c_expr.specs.Standing.{IsMade, Makes, Passes}
use Rattle.c_expr.proofs.Standing.{led_line, list-next, list-last, made, at_node, then_both}
use Rattle.c_expr.proofs.StandingParts.{list-done}
use Rattle.c_parser.specs.Behind.{OverBoth}
use Rattle.c_parser.proofs.InitialSteps.{named-declared}

-- initial values behind their brace
pub braces_behind : (ns : Nodes) (comma : Bool) (low high : ℕ) (ts us rest : List Token) → Passes (Sign marks.OpenBrace) ts us → Stands (list_line ns ⨾ comma_if comma ⨾ sign marks.CloseBrace) low high us rest
    → Stands (sign marks.OpenBrace ⨾ list_line ns ⨾ comma_if comma ⨾ sign marks.CloseBrace) low high ts rest
braces_behind ns comma low high ts us rest p (OfBoth (OfBoth l e) c) = OfBoth (OfBoth (OfBoth (p low) l) e) c

-- the identifier of a declared token, which stands elsewhere
named : (n : Node) (token : Token) (found : Option Token) (old new : ℕ) (ts : List Token) → found ≡ Some token → n ≡ node old token.place (nodes.Primary (nodes.Ident token)) → new ≡ old + 1
    → Stands (names found n) old new ts ts
named n token found old new ts f e h = rw (f, e, h) OfName

pub name-stands : (r : Read) (token : Token) (found : Option Token) (old new : ℕ) (ts rest : List Token) → found ≡ Some token → IsMade r old new token.place (nodes.Primary (nodes.Ident token)) rest
    → Stands (names found (node_of r.tree.now)) old new ts ts
name-stands r token found old new ts rest f m = named (node_of r.tree.now) token found old new ts f m.0 m.1

-- one more declarator, a comma, and the declarator behind it
pub led-next : (all pushed : List Tree) (d item next : Tree) (low a b c : ℕ) (ts us vs ws rest : List Token) → pushed ≡ all ++ (item ∷ [])
    → Stands (led_line all ⨾ line_of (node_of d)) low a ts us → ((low : ℕ) (ts : List Token) → StandsOver (node_of d) low a ts us → StandsOver (node_of item) low b ts vs)
    → Passes (Sign marks.Comma) vs ws → StandsOver (node_of next) b c ws rest → Stands (led_line pushed ⨾ line_of (node_of next)) low c ts rest
led-next all pushed d item next low a b c ts us vs ws rest n (OfBoth {middle = m} {us = xs} l s) f p k = OfBoth (list-next all pushed item low m b ts xs vs ws n l (f m xs s) p) k

-- the last declarator, and a punctuator
pub led-last : (trees : Trees) (all pushed : List Tree) (d item : Tree) (low a b : ℕ) (ts us vs rest : List Token) → nodes_of trees ≡ nodes_in pushed → pushed ≡ all ++ (item ∷ [])
    → Stands (led_line all ⨾ line_of (node_of d)) low a ts us → ((low : ℕ) (ts : List Token) → StandsOver (node_of d) low a ts us → StandsOver (node_of item) low b ts vs)
    → Passes (Sign marks.Semicolon) vs rest → Stands (list_line (nodes_of trees) ⨾ sign marks.Semicolon) low b ts rest
led-last trees all pushed d item low a b ts us vs rest e n (OfBoth {middle = m} {us = xs} l s) f p =
    OfBoth (list-done trees pushed low b ts vs e (list-last all pushed item low m b ts xs vs n l (f m xs s))) (p b)

-- the first declarator
pub led-first : (all : List Tree) (d : Tree) (low high : ℕ) (ts rest : List Token) → all ≡ [] → StandsOver (node_of d) low high ts rest → Stands (led_line all ⨾ line_of (node_of d)) low high ts rest
led-first all d low high ts rest e s = subst (λ l. Stands (led_line l ⨾ line_of (node_of d)) low high ts rest) (sym e) (OfBoth OfNothing s)

-- a node that begins with another has its place
at_both : (tree : Tree) (l : Line) (low high : ℕ) (ts rest : List Token) → Stands (line_of (node_of tree) ⨾ l) low high ts rest → Stands (at tree.first) low low ts ts
at_both tree l low high ts rest (OfBoth {middle = m} {us = us} s k) = at_node tree low m ts us s

both-spliced : (a d : Node) (l : Line) (low old high : ℕ) (ts us rest : List Token) → Stands (line_of a ⨾ line_of d) low old ts us
    → ((low : ℕ) (ts : List Token) → StandsOver d low old ts us → Stands (l ⨾ sign marks.Semicolon) low high ts rest) → Stands (line_of a ⨾ l ⨾ sign marks.Semicolon) low high ts rest
both-spliced a d l low old high ts us rest (OfBoth {middle = m} {us = vs} s k) f = then_both (line_of a) l (sign marks.Semicolon) low m high ts vs rest s (f m vs k)

-- a declaration behind its specifiers and the first declarator
pub declaration-stands : (result : Result Read ExprFault) (specs : Tree) (d : Node) (ns : Nodes) (old middle new : ℕ) (us rest : List Token)
    → Makes result middle new specs.first (nodes.Outer (nodes.Declaration (node_of specs) ns)) rest
    → ((low : ℕ) (ts : List Token) → StandsOver d low old ts us → Stands (list_line ns ⨾ sign marks.Semicolon) low middle ts rest)
    → OverBoth result (node_of specs) d old new us
declaration-stands result specs d ns old middle new us rest m f low ts s =
    made result specs.first (nodes.Outer (nodes.Declaration (node_of specs) ns)) low middle new ts rest m (at_both specs (line_of d) low old ts us s) (both-spliced (node_of specs) d (list_line ns) low old middle ts us rest s f)

pub function-stands : (result : Result Read ExprFault) (specs : Tree) (d body : Node) (old middle new : ℕ) (us rest : List Token)
    → Makes result middle new specs.first (nodes.Outer (nodes.Function (node_of specs) d body)) rest
    → StandsOver body old middle us rest → OverBoth result (node_of specs) d old new us
function-stands result specs d body old middle new us rest m b low ts s =
    made result specs.first (nodes.Outer (nodes.Function (node_of specs) d body)) low middle new ts rest m (at_both specs (line_of d) low old ts us s) (OfBoth s b)

-- what a node that was made declares
pub declares : (result : Result Read ExprFault) (old new : ℕ) (first : Place) (shape : Shape) (rest : List Token) (now before : Names) → Makes result old new first shape rest
    → now ≡ declared (shape_syntax shape) before → IfOk result (λ r. now ≡ declared (view r.tree.now) before)
declares (Ok r) old new first shape rest now before m e = e ∙ sym (ap (λ x. declared x before) (ap syntax_of m.0))
declares (Err x) old new first shape rest now before m e = tt

-- what a declarator with its initial value declares
pub initialized-declares : (result : Result Read ExprFault) (old new : ℕ) (first : Place) (name d e : Node) (rest : List Token) (type : Bool) (word : ℕ) (before inside now : Names)
    → Makes result old new first (nodes.Initializer (nodes.Init name d e)) rest → name_of (syntax_of d) ≡ Some word → inside ≡ with_name (declared_name (syntax_of d)) type before → now ≡ inside
    → IfOk result (λ r. now ≡ with_name (declared_name (view r.tree.now)) type before)
initialized-declares (Ok r) old new first name d e rest type word before inside now m h i k =
    k ∙ i ∙ ap (λ x. with_name x type before) (named-declared (syntax_of d) word h ∙ sym h ∙ sym (ap (λ n. declared_name (syntax_of n)) m.0))
initialized-declares (Err x) old new first name d e rest type word before inside now m h i k = tt

pub rest-declared : (t u : Bool) (es : Syntaxes) (a b now : Names) → now ≡ with_declarators t es a → t ≡ u → a ≡ b → now ≡ with_declarators u es b
rest-declared t u es a b now n e f = n ∙ ap (λ x. with_declarators x es a) e ∙ ap (with_declarators u es) f
