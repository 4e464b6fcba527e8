-- Where specifiers, parameters and declarators stand.
use Rattle.std.proofs.Common.{◌≡◌, ℕ, ◌+◌, ◌<◌, Bool, false, Bor, IfSome, List, [], ◌∷◌, ◌++◌, length, Option, None, Some, refl, sym, ap, ◌∙◌, subst, arith}
use Rattle.c_tree.specs.declared.keyword.Keyword.{Keyword}
use Rattle.c_tree.specs.declared.punctuator.Punctuator.TheVariants as marks
use Rattle.c_tree.specs.declared.token.Token.{Token}
use Rattle.c_tree.specs.declared.token.TokenKind.TheVariants as kinds
use Rattle.c_tree.specs.declared.tree.Tree.{Tree}
use Rattle.c_tree.specs.declared.tree.Trees.{Trees}
use Rattle.c_tree.specs.Symbol.{Symbol, Reserved, Sign, symbol_as, symbol_of, symbols_of}
use Rattle.c_tree.specs.Syntax as plain
use Rattle.c_tree.specs.Syntax.{Syntaxes}
use Rattle.c_tree.specs.Height.{height_in}
use Rattle.c_tree.specs.Forget.{view_all}
use Rattle.c_tree.specs.Node.{Node, Nodes}
use Rattle.c_tree.specs.Views.{nodes_of, nodes_in}
use Rattle.c_grammar.specs.Grammar.{is_nothing}
use Rattle.c_grammar.specs.CPlaces.Lines.{all_kept, sign, ◌⨾◌, row_line, list_line, ellipsis_if}
use Rattle.c_grammar.specs.CPlaces.Stands.{Stands, OfNothing, OfAll, OfFixed, OfBoth, StandsOver}
use Rattle.c_expr.specs.Gives.{count_in, ending_with}
use Rattle.c_expr.specs.ParamLists.{params_after}
use Rattle.c_expr.specs.Standing.{Passes, IsFirst}

-- a token has its own place, and is passed where its symbol is known
pub first_self : (t : Token) (ts : List Token) → IsFirst t.place (t ∷ ts)
first_self t ts u rest e = let h : t ≡ u = cc in ap (λ t. t.place) h

pub self_passed : (s : Symbol) (t : Token) (ts : List Token) → symbol_of t ≡ s → Passes s (t ∷ ts) ts
self_passed s t ts e low = OfFixed e

-- the symbol of a keyword
pub keyword_symbol : (t : Token) (word k : Keyword) → t.kind ≡ kinds.Keyword word → word ≡ k → symbol_of t ≡ Reserved k
keyword_symbol t word k e h = ap (λ x. symbol_as x t.name) e ∙ ap Reserved h

pub over_same : (n : Node) (low high : ℕ) (ts us rest : List Token) → ts ≡ us → StandsOver n low high us rest → StandsOver n low high ts rest
over_same n low high ts us rest e s = subst (λ ts. StandsOver n low high ts rest) (sym e) s

-- the trees of a loop, once they are a list
pub row-done : (trees : Trees) (all : List Tree) (low high : ℕ) (ts rest : List Token) → nodes_of trees ≡ nodes_in all → Stands (row_line (nodes_in all)) low high ts rest → Stands (row_line (nodes_of trees)) low high ts rest
row-done trees all low high ts rest e s = subst (λ ns. Stands (row_line ns) low high ts rest) (sym e) s

pub list-done : (trees : Trees) (all : List Tree) (low high : ℕ) (ts rest : List Token) → nodes_of trees ≡ nodes_in all → Stands (list_line (nodes_in all)) low high ts rest → Stands (list_line (nodes_of trees)) low high ts rest
list-done trees all low high ts rest e s = subst (λ ns. Stands (list_line ns) low high ts rest) (sym e) s

-- one symbol behind the other
pub passed-both : (r : Option (Bor (List Token))) (s u : Symbol) (ts us : List Token) → Passes s ts us → IfSome r (λ rest. Passes u us rest.now) → IfSome r (λ rest. (behind : List Token) × Passes s ts behind × Passes u behind rest.now)
passed-both None s u ts us p q = tt
passed-both (Some r) s u ts us p q = (us, p, q)

-- parameters behind their parenthesis
pub params_behind : (ns : Nodes) (variadic : Bool) (low high : ℕ) (ts us rest : List Token) → Passes (Sign marks.OpenParen) ts us → Stands (list_line ns ⨾ ellipsis_if variadic ⨾ sign marks.CloseParen) low high us rest → Stands (sign marks.OpenParen ⨾ list_line ns ⨾ ellipsis_if variadic ⨾ sign marks.CloseParen) low high ts rest
params_behind ns variadic low high ts us rest p (OfBoth (OfBoth l e) c) = OfBoth (OfBoth (OfBoth (p low) l) e) c

both_lengths : (us ts : List Token) → length (us ++ ts) ≡ length us + length ts
both_lengths [] ts = omega arith
both_lengths (u ∷ us) ts = let h = both_lengths us ts in omega arith

pub kept_length : (us : List Token) (low high : ℕ) (ts rest : List Token) → Stands (all_kept us) low high ts rest → length ts ≡ length us + length rest
kept_length us low high ts rest OfAll = both_lengths us rest

-- where something of a declarator is there, there are pointers or suffixes
pub something : (ps : List Token) (es : Syntaxes) → is_nothing (symbols_of ps) es ≡ false → 0 < length ps + count_in es
something [] plain.no_more h = absurd cc
something [] (plain.more e es) h = omega arith
something (p ∷ ps) es h = omega arith

-- a loop that begins with no trees
pub list-start : (all : List Tree) (low : ℕ) (ts : List Token) → all ≡ [] → Stands (list_line (nodes_in all)) low low ts ts
list-start all low ts e = subst (λ l. Stands (list_line (nodes_in l)) low low ts ts) (sym e) OfNothing

pub as_long : (ts : List Token) → length ts ≡ length (symbols_of ts)
as_long [] = refl
as_long (t ∷ ts) = let h = as_long ts in omega (arith, h)

none-ending : (found : Option (Syntaxes × List Symbol)) → ending_with [] found ≡ found
none-ending None = refl
none-ending (Some es) = refl

pub ending-start : (step : ℕ → Option (Syntaxes × List Symbol)) (all : List Tree) (ts : List Token) → all ≡ [] → ending_with all (step (length ts)) ≡ step (length (symbols_of ts))
ending-start step all ts e = ap (λ l. ending_with l (step (length ts))) e ∙ none-ending (step (length ts)) ∙ ap step (as_long ts)

none-after : (found : Option (Syntaxes × Bool × List Symbol)) → params_after [] found ≡ found
none-after None = refl
none-after (Some ps) = refl

pub params-start : (step : ℕ → Option (Syntaxes × Bool × List Symbol)) (all : List Tree) (ts : List Token) → all ≡ [] → params_after all (step (length ts)) ≡ step (length (symbols_of ts))
params-start step all ts e = ap (λ l. params_after l (step (length ts))) e ∙ none-after (step (length ts)) ∙ ap step (as_long ts)

pub height-start : (all : List Tree) → all ≡ [] → 0 ≡ height_in (view_all all)
height-start all e = sym (ap (λ l. height_in (view_all l)) e)

pub count-start : (all : List Tree) → all ≡ [] → count_in (view_all all) ≡ 0
count-start all e = ap (λ l. count_in (view_all l)) e
