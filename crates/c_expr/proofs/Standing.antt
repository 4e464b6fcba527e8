-- Lines that stand. A node stands where its parts do: `made` and `made_part` take what stands in the order of its line.
use Rattle.std.proofs.Common.{◌≡◌, ℕ, ◌+◌, ◌-◌, ◌<◌, List, [], ◌∷◌, ◌++◌, length, get_or, take, drop, Some, Result, Ok, Err, refl, sym, subst, arith}
use Rattle.std.proofs.lemmas.List.{take_all, take-append-drop}
use Rattle.c_tree.specs.declared.operator.UnaryOp.{UnaryOp}
use Rattle.c_tree.specs.declared.operator.UnaryOp.TheVariants as unary
use Rattle.c_tree.specs.declared.place.Place.{Place}
use Rattle.c_tree.specs.declared.tree.Tree.{Tree}
use Rattle.c_tree.specs.declared.token.Token.{Token}
use Rattle.c_tree.specs.declared.token.TokenKind.TheVariants as token_kinds
use Rattle.c_tree.specs.declared.keyword.Keyword.{Keyword}
use Rattle.c_tree.specs.declared.punctuator.Punctuator.TheVariants as marks
use Rattle.c_tree.specs.Symbol.{Symbol, Sign, Reserved, symbol_of}
use Rattle.c_tree.specs.Node.{Node, node, Shape, Nodes, no_more}
use Rattle.c_tree.specs.Views.{node_of, nodes_in}
use Rattle.c_grammar.specs.CPlaces.Lines.{Line, nothing, fixed, at, kept, all_kept, sign, unary_line, ◌⨾◌, shape_line, row_line, list_line, more_line}
use Rattle.c_grammar.specs.CPlaces.Stands.{Stands, OfNothing, OfKept, OfAll, OfFixed, OfPlace, OfNumber, OfBoth, StandsOver}
use Rattle.c_grammar.specs.Levels.{prefix_of}
use Rattle.c_expr.specs.declared.fault.ExprFault.{ExprFault}
use Rattle.c_expr.specs.declared.nodes.Read.{Read}
use Rattle.c_expr.specs.Standing.{Over, IsMade, Makes, Passes, Keeps, KeepsAll, Leads, IsFirst}

-- where tokens stand, there are some
pub some_passed : (s : Symbol) (low high : ℕ) (ts rest : List Token) → Stands (fixed s) low high ts rest → 0 < length ts
some_passed s low high ts rest (OfFixed e) = omega arith

pub some_kept : (u : Token) (low high : ℕ) (ts rest : List Token) → Stands (kept u) low high ts rest → 0 < length ts
some_kept u low high ts rest OfKept = omega arith

some_at : (p : Place) (low high : ℕ) (ts rest : List Token) → Stands (at p) low high ts rest → 0 < length ts
some_at p low high ts rest OfPlace = omega arith

pub some_node : (n : Node) (low high : ℕ) (ts rest : List Token) → StandsOver n low high ts rest → 0 < length ts
some_node (node id first shape) low high ts rest (OfBoth (OfBoth {middle = m} {us = us} a s) k) = some_at first low m ts us a

longer : (us ts : List Token) → 0 < length ts → 0 < length (us ++ ts)
longer [] ts h = h
longer (u ∷ us) ts h = omega arith

pub some_behind : (us : List Token) (low high : ℕ) (ts rest : List Token) → 0 < length rest → Stands (all_kept us) low high ts rest → 0 < length ts
some_behind us low high ts rest h OfAll = longer us rest h

-- the place of a node, where its first token stands
pub at_front : (first : Place) (low : ℕ) (ts : List Token) → IsFirst first ts → 0 < length ts → Stands (at first) low low ts ts
at_front first low [] f h = absurd (omega arith)
at_front first low (t ∷ ts) f h = rw (f t ts refl) OfPlace

pub at_passed : (first : Place) (s : Symbol) (low : ℕ) (ts rest : List Token) → IsFirst first ts → Passes s ts rest → Stands (at first) low low ts ts
at_passed first s low ts rest f p = at_front first low ts f (some_passed s low low ts rest (p low))

at_self : (p : Place) (low high : ℕ) (ts rest : List Token) → Stands (at p) low high ts rest → Stands (at p) low low ts ts
at_self p low high ts rest OfPlace = OfPlace

-- a node that begins with another has its place
pub at_node : (tree : Tree) (low high : ℕ) (ts rest : List Token) → StandsOver (node_of tree) low high ts rest → Stands (at tree.first) low low ts ts
at_node tree low high ts rest (OfBoth (OfBoth {middle = m} {us = us} a s) k) = at_self tree.first low m ts us a

whole : (n : Node) (first : Place) (shape : Shape) (low middle high : ℕ) (ts rest : List Token)
    → Stands (at first) low low ts ts → Stands (shape_line shape) low middle ts rest → n ≡ node middle first shape → high ≡ middle + 1 → StandsOver n low high ts rest
whole n first shape low middle high ts rest a s e h = rw (e, h) (OfBoth (OfBoth a s) OfNumber)

pub made_part : (r : Read) (first : Place) (shape : Shape) (low old new : ℕ) (ts rest : List Token)
    → IsMade r old new first shape rest → Stands (at first) low low ts ts → Stands (shape_line shape) low old ts rest → StandsOver (node_of r.tree.now) low new ts r.rest.now
made_part r first shape low old new ts rest m a s =
    let h = whole (node_of r.tree.now) first shape low old new ts rest a s m.0 m.1 in
    subst (λ us. StandsOver (node_of r.tree.now) low new ts us) (sym m.2) h

pub made : (r : Result Read ExprFault) (first : Place) (shape : Shape) (low old new : ℕ) (ts rest : List Token)
    → Makes r old new first shape rest → Stands (at first) low low ts ts → Stands (shape_line shape) low old ts rest → Over r low new ts
made (Ok r) first shape low old new ts rest m a s = made_part r first shape low old new ts rest m a s
made (Err e) first shape low old new ts rest m a s = tt

-- the token in front, and those behind it
pub front-passes : (s : Symbol) (ts : List Token) (d : Token) → 0 < length ts → symbol_of (get_or ts 0 d) ≡ s → Passes s ts (take (length ts - 1) (drop 1 ts))
front-passes s [] d h e low = absurd (omega arith)
front-passes s (t ∷ ts) d h e low = subst (λ us. Stands (fixed s) low low (t ∷ ts) us) (sym (take_all (length (t ∷ ts) - 1) ts (omega arith))) (OfFixed e)

pub front-kept : (ts : List Token) (d : Token) → 0 < length ts → Keeps (get_or ts 0 d) ts (take (length ts - 1) (drop 1 ts))
front-kept [] d h low = absurd (omega arith)
front-kept (t ∷ ts) d h low = subst (λ us. Stands (kept t) low low (t ∷ ts) us) (sym (take_all (length (t ∷ ts) - 1) ts (omega arith))) OfKept

pub parts-kept : (us ts rest : List Token) → ts ≡ us ++ rest → KeepsAll us ts rest
parts-kept us ts rest e low = rw e OfAll

pub split-kept : (n : ℕ) (ts us rest : List Token) → us ≡ take n ts → rest ≡ drop n ts → KeepsAll us ts rest
split-kept n ts us rest f b = parts-kept us ts rest (sym (rw (f, b) (take-append-drop n ts)))

-- one more node behind those before
row-more : (all : List Tree) (tree : Tree) (low middle high : ℕ) (ts us rest : List Token)
    → Stands (row_line (nodes_in all)) low middle ts us → StandsOver (node_of tree) middle high us rest → Stands (row_line (nodes_in (all ++ (tree ∷ [])))) low high ts rest
row-more [] tree low middle high ts us rest OfNothing s = OfBoth s OfNothing
row-more (a ∷ all) tree low middle high ts us rest (OfBoth {middle = m} {us = vs} f r) s = OfBoth f (row-more all tree m middle high vs us rest r s)

pub row-next : (all pushed : List Tree) (tree : Tree) (low middle high : ℕ) (ts us rest : List Token) → pushed ≡ all ++ (tree ∷ [])
    → Stands (row_line (nodes_in all)) low middle ts us → StandsOver (node_of tree) middle high us rest → Stands (row_line (nodes_in pushed)) low high ts rest
row-next all pushed tree low middle high ts us rest n f s = subst (λ l. Stands (row_line (nodes_in l)) low high ts rest) (sym n) (row-more all tree low middle high ts us rest f s)

more-more : (all : List Tree) (tree : Tree) (low middle high : ℕ) (ts us vs rest : List Token)
    → Stands (more_line (nodes_in all)) low middle ts us → Passes (Sign marks.Comma) us vs → StandsOver (node_of tree) middle high vs rest → Stands (more_line (nodes_in (all ++ (tree ∷ [])))) low high ts rest
more-more [] tree low middle high ts us vs rest OfNothing c s = OfBoth (OfBoth (c middle) s) OfNothing
more-more (a ∷ all) tree low middle high ts us vs rest (OfBoth {middle = m} {us = ws} f r) c s = OfBoth f (more-more all tree m middle high ws us vs rest r c s)

-- nodes with a comma behind each
abbrev pub led_line : List Tree → Line
led_line [] = nothing
led_line (t ∷ ts) = list_line (nodes_in (t ∷ ts)) ⨾ sign marks.Comma

list-more : (all : List Tree) (tree : Tree) (low middle high : ℕ) (ts us rest : List Token)
    → Stands (led_line all) low middle ts us → StandsOver (node_of tree) middle high us rest → Stands (list_line (nodes_in (all ++ (tree ∷ [])))) low high ts rest
list-more [] tree low middle high ts us rest OfNothing s = OfBoth s OfNothing
list-more (a ∷ all) tree low middle high ts us rest (OfBoth {middle = m} {us = ws} (OfBoth {middle = k} {us = vs} f r) c) s = OfBoth f (more-more all tree k m high vs ws us rest r (passed c) (moved c s))
  where
    passed : {low high : ℕ} {ts rest : List Token} → Stands (sign marks.Comma) low high ts rest → Passes (Sign marks.Comma) ts rest
    passed (OfFixed e) low = OfFixed e

    moved : {low high above : ℕ} {ts rest end : List Token} → Stands (sign marks.Comma) low high ts rest → StandsOver (node_of tree) high above rest end → StandsOver (node_of tree) low above rest end
    moved (OfFixed e) s = s

-- the last of a list
pub list-last : (all pushed : List Tree) (tree : Tree) (low middle high : ℕ) (ts us rest : List Token) → pushed ≡ all ++ (tree ∷ [])
    → Stands (led_line all) low middle ts us → StandsOver (node_of tree) middle high us rest → Stands (list_line (nodes_in pushed)) low high ts rest
list-last all pushed tree low middle high ts us rest n f s = subst (λ l. Stands (list_line (nodes_in l)) low high ts rest) (sym n) (list-more all tree low middle high ts us rest f s)

led : (l : List Tree) (all : List Tree) (tree : Tree) (low high : ℕ) (ts rest : List Token) → l ≡ all ++ (tree ∷ []) → Stands (list_line (nodes_in l) ⨾ sign marks.Comma) low high ts rest → Stands (led_line l) low high ts rest
led [] [] tree low high ts rest e s = absurd cc
led [] (a ∷ all) tree low high ts rest e s = absurd cc
led (t ∷ l) all tree low high ts rest e s = s

-- one more with a comma behind it
pub list-next : (all pushed : List Tree) (tree : Tree) (low middle high : ℕ) (ts us vs rest : List Token) → pushed ≡ all ++ (tree ∷ [])
    → Stands (led_line all) low middle ts us → StandsOver (node_of tree) middle high us vs → Passes (Sign marks.Comma) vs rest → Stands (led_line pushed) low high ts rest
list-next all pushed tree low middle high ts us vs rest n f s c = led pushed all tree low high ts rest n (OfBoth (list-last all pushed tree low middle high ts us vs n f s) (c high))

same : (a b : UnaryOp) → Some a ≡ Some b → a ≡ b
same a b h = cc

lead : (s : Symbol) (op : UnaryOp) → prefix_of s ≡ Some op → (l : Line) (low high : ℕ) (t : Token) (ts end : List Token) → symbol_of t ≡ s → Stands l low high ts end → Stands (unary_line op l) low high (t ∷ ts) end
lead (Sign marks.Increment) op h l low high t ts end e s = subst (λ o. Stands (unary_line o l) low high (t ∷ ts) end) (same unary.PreInc op h) (OfBoth (OfFixed e) s)
lead (Sign marks.Decrement) op h l low high t ts end e s = subst (λ o. Stands (unary_line o l) low high (t ∷ ts) end) (same unary.PreDec op h) (OfBoth (OfFixed e) s)
lead (Sign marks.Ampersand) op h l low high t ts end e s = subst (λ o. Stands (unary_line o l) low high (t ∷ ts) end) (same unary.AddressOf op h) (OfBoth (OfFixed e) s)
lead (Sign marks.Star) op h l low high t ts end e s = subst (λ o. Stands (unary_line o l) low high (t ∷ ts) end) (same unary.Deref op h) (OfBoth (OfFixed e) s)
lead (Sign marks.Plus) op h l low high t ts end e s = subst (λ o. Stands (unary_line o l) low high (t ∷ ts) end) (same unary.Plus op h) (OfBoth (OfFixed e) s)
lead (Sign marks.Minus) op h l low high t ts end e s = subst (λ o. Stands (unary_line o l) low high (t ∷ ts) end) (same unary.Minus op h) (OfBoth (OfFixed e) s)
lead (Sign marks.Tilde) op h l low high t ts end e s = subst (λ o. Stands (unary_line o l) low high (t ∷ ts) end) (same unary.BitNot op h) (OfBoth (OfFixed e) s)
lead (Sign marks.Exclamation) op h l low high t ts end e s = subst (λ o. Stands (unary_line o l) low high (t ∷ ts) end) (same unary.Not op h) (OfBoth (OfFixed e) s)
lead _ op h l low high t ts end e s = absurd cc

pub front-leads : (op : UnaryOp) (ts : List Token) (d : Token) → 0 < length ts → prefix_of (symbol_of (get_or ts 0 d)) ≡ Some op → Leads op ts (take (length ts - 1) (drop 1 ts))
front-leads op [] d h e l low high end s = absurd (omega arith)
front-leads op (t ∷ ts) d h e l low high end s = lead (symbol_of t) op e l low high t ts end refl (subst (λ us. Stands l low high us end) (take_all (length (t ∷ ts) - 1) ts (omega arith)) s)

-- what stands behind in two parts
pub then_both : (l m n : Line) (low middle high : ℕ) (ts us rest : List Token) → Stands l low middle ts us → Stands (m ⨾ n) middle high us rest → Stands (l ⨾ m ⨾ n) low high ts rest
then_both l m n low middle high ts us rest s (OfBoth {middle = k} {us = vs} f b) = OfBoth (OfBoth s f) b

-- the place of the token in front
pub front-first : (ts : List Token) (d : Token) → 0 < length ts → IsFirst (get_or ts 0 d).place ts
front-first [] d h t rest e = absurd (omega arith)
front-first (u ∷ us) d h t rest e = cc

-- nodes up to a parenthesis
pub row-closed : (all : List Tree) (nodes : Nodes) (low high : ℕ) (ts us rest : List Token) → nodes ≡ nodes_in all
    → Stands (row_line (nodes_in all)) low high ts us → Passes (Sign marks.CloseParen) us rest → Stands (row_line nodes ⨾ sign marks.CloseParen) low high ts rest
row-closed all nodes low high ts us rest e s p = rw e (OfBoth s (p high))

pub list-closed : (all : List Tree) (nodes : Nodes) (low high : ℕ) (ts us rest : List Token) → nodes ≡ nodes_in all
    → Stands (list_line (nodes_in all)) low high ts us → Passes (Sign marks.CloseParen) us rest → Stands (list_line nodes ⨾ sign marks.CloseParen) low high ts rest
list-closed all nodes low high ts us rest e s p = rw e (OfBoth s (p high))

pub none-closed : (nodes : Nodes) (low : ℕ) (ts rest : List Token) → nodes ≡ no_more → Passes (Sign marks.CloseParen) ts rest → Stands (list_line nodes ⨾ sign marks.CloseParen) low low ts rest
none-closed nodes low ts rest e p = rw e (OfBoth OfNothing (p low))

-- no nodes yet
pub row-start : (all : List Tree) (low : ℕ) (ts : List Token) → all ≡ [] → Stands (row_line (nodes_in all)) low low ts ts
row-start all low ts e = rw e OfNothing

pub led-start : (all : List Tree) (low : ℕ) (ts : List Token) → all ≡ [] → Stands (led_line all) low low ts ts
led-start all low ts e = rw e OfNothing

-- the token in front by its kind
pub front-reserved : (ts : List Token) (d : Token) (k l : Keyword) → 0 < length ts → (get_or ts 0 d).kind ≡ token_kinds.Keyword k → k ≡ l → Passes (Reserved l) ts (take (length ts - 1) (drop 1 ts))
front-reserved ts d k l h e f = front-passes (Reserved l) ts d h (reserved (get_or ts 0 d) e)
  where
    reserved : (t : Token) → t.kind ≡ token_kinds.Keyword k → symbol_of t ≡ Reserved l
    reserved t e = rw (e, f) refl

-- the place of a node behind whose first token these stand
pub at_shorter : (first : Place) (low : ℕ) (ts rest : List Token) → IsFirst first ts → length rest + 1 ≡ length ts → Stands (at first) low low ts ts
at_shorter first low ts rest f h = at_front first low ts f (omega (arith, h))
