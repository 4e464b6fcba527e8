-- Each tree of the grammar is read, so what is read of all symbols is their only parse.
use Rattle.std.proofs.Common.{◌≡◌, ℕ, zero, suc, ◌<◌, List, [], Some, ap, refl, ◌∙◌, sym, arith}
use Rattle.c_tree.specs.Symbol.{Symbol}
use Rattle.c_tree.specs.Syntax.{Syntax, Primary, Operation, Specifier, Declarator, Index, TypeName, Specs, Param, Named}
use Rattle.c_tree.specs.Height.{height_of}
use Rattle.c_grammar.specs.Names.{Names}
use Rattle.c_grammar.specs.Nonterminal.{Nonterminal, Expression, Specifiers, NameOfType, DeclaratorIn, Parameter}
use Rattle.c_grammar.specs.Grammar.{IsOf, IsParse, IsExpr}
use Rattle.c_grammar.specs.Following.{Ends}
use Rattle.c_grammar.specs.Reading.{read, whole}
use Rattle.c_grammar.proofs.Options.{same}
use Rattle.c_grammar.proofs.Readers.{Knows}
use Rattle.c_grammar.proofs.CompleteSpecifiers.{specifiers-complete}
use Rattle.c_grammar.proofs.CompleteDeclarators.{declarator-complete, type_name-complete, param-complete}
use Rattle.c_grammar.proofs.CompleteExpressions.{positive, expression-complete}

-- no tree of the grammar has height zero
positive_expression : (names : Names) (e : Syntax) → IsExpr names e → 0 < height_of e
positive_expression names (Primary p) w = positive p
positive_expression names (Operation (Index array index)) w = omega arith
positive_expression names (Operation _) w = omega arith
positive_expression names _ w = absurd w

positive_tree : (nonterminal : Nonterminal) (names : Names) (e : Syntax) → IsOf nonterminal names e → 0 < height_of e
positive_tree (Expression level) names e w = positive_expression names e w.1
positive_tree (Specifiers place) names (Specifier (Specs items)) w = omega arith
positive_tree NameOfType names (Specifier (TypeName specs declarator)) w = omega arith
positive_tree (DeclaratorIn form) names (Declarator (Named pointers name suffixes)) w = omega arith
positive_tree (DeclaratorIn form) names (Declarator _) w = omega arith
positive_tree Parameter names (Specifier (Param specs declarator)) w = omega arith
positive_tree _ names _ w = absurd w

pub read-complete : (n : ℕ) → Knows (read n) n
unfolding read
read-complete zero nonterminal names e r w h s = let p = positive_tree nonterminal names e w in absurd (omega arith)
read-complete (suc n) (Expression level) names e r w h s = expression-complete (read n) n level names e r (read-complete n) w.0 w.1 h s
read-complete (suc n) (Specifiers place) names e r w h s = specifiers-complete (suc n) place names e r w h s
read-complete (suc n) NameOfType names e r w h s = type_name-complete (read n) n names e r (read-complete n) w h s
read-complete (suc n) (DeclaratorIn form) names e r w h s = declarator-complete (read n) n form names e r (read-complete n) w h s
read-complete (suc n) Parameter names e r w h s = param-complete (read n) n names e r (read-complete n) w h s

-- the end of the symbols goes on with no tree
ends_at_end : (nonterminal : Nonterminal) (names : Names) → Ends nonterminal names []
ends_at_end (Expression level) names = tt
ends_at_end (Specifiers place) names = refl
ends_at_end NameOfType names = refl
ends_at_end (DeclaratorIn form) names = refl
ends_at_end Parameter names = refl

-- a parse of all symbols is what is read of them
pub whole-complete : (nonterminal : Nonterminal) (names : Names) (ts : List Symbol) (e : Syntax) → IsParse nonterminal names e ts → whole nonterminal names ts ≡ Some e
whole-complete nonterminal names ts e p =
    ap (whole nonterminal names) p.tokens ∙ rw (read-complete 1000 nonterminal names e [] p.well p.height (ends_at_end nonterminal names)) refl

-- symbols have at most one parse
pub one_parse : (nonterminal : Nonterminal) (names : Names) (ts : List Symbol) (a b : Syntax) → IsParse nonterminal names a ts → IsParse nonterminal names b ts → a ≡ b
one_parse nonterminal names ts a b p q = same a b (sym (whole-complete nonterminal names ts a p) ∙ whole-complete nonterminal names ts b q)
