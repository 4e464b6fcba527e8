-- What is read is a tree of the grammar.
use Rattle.std.proofs.Common.{◌≡◌, ℕ, zero, suc, List, [], ◌∷◌, Option, Some, ap, ◌∙◌}
use Rattle.c_tree.specs.Symbol.{Symbol}
use Rattle.c_tree.specs.Syntax.{Syntax}
use Rattle.c_grammar.specs.Names.{Names}
use Rattle.c_grammar.specs.Nonterminal.{Nonterminal, Expression, Specifiers, NameOfType, DeclaratorIn, Parameter}
use Rattle.c_grammar.specs.Grammar.{IsParse}
use Rattle.c_grammar.specs.Found.{Found}
use Rattle.c_grammar.specs.Reading.{read, ended, whole}
use Rattle.c_grammar.proofs.Options.{bound}
use Rattle.c_grammar.proofs.Readers.{IsSound}
use Rattle.c_grammar.proofs.SoundSpecifiers.{specifiers-sound}
use Rattle.c_grammar.proofs.SoundDeclarators.{declarator-sound, type_name-sound, param-sound}
use Rattle.c_grammar.proofs.SoundExpressions.{expression-sound}

pub read-sound : (n : ℕ) → IsSound (read n) n
unfolding read
read-sound zero nonterminal names ts e r h = cc
read-sound (suc n) (Expression level) names ts e r h = expression-sound (read n) n (suc n) level names ts e r (read-sound n) h
read-sound (suc n) (Specifiers place) names ts e r h = specifiers-sound (suc n) place names ts e r h
read-sound (suc n) NameOfType names ts e r h = type_name-sound (read n) n (suc n) names ts e r (read-sound n) h
read-sound (suc n) (DeclaratorIn form) names ts e r h = declarator-sound (read n) n (suc n) form names ts e r (read-sound n) h
read-sound (suc n) Parameter names ts e r h = param-sound (read n) n (suc n) names ts e r (read-sound n) h

at_end : (found : Found) (e : Syntax) → ended found ≡ Some e → Some found ≡ Some (e, [])
at_end (x, []) e h = let q : x ≡ e = cc in let F : Syntax → Option Found = λ y. Some (y, []) in ap F q
at_end (x, t ∷ ts) e h = cc

-- what is read of all symbols is their parse
pub whole-sound : (nonterminal : Nonterminal) (names : Names) (ts : List Symbol) (e : Syntax) → whole nonterminal names ts ≡ Some e → IsParse nonterminal names e ts
whole-sound nonterminal names ts e h =
    let a = bound (read 1000 nonterminal names ts) ended e h in
    let s = read-sound 1000 nonterminal names ts e [] (a.1 ∙ at_end a.0 e a.2) in
    record { tokens = s.tokens; well = s.well; height = s.height }
