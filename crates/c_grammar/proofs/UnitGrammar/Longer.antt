-- A row of trees of which each has tokens is as long as it has trees.
use Rattle.std.proofs.Common.{◌≡◌, ◌+◌, ◌<◌, ◌≤◌, Bool, true, List, [], ◌∷◌, ◌++◌, length, inl, inr, arith}
use Rattle.c_tree.specs.declared.punctuator.Punctuator.TheVariants as marks
use Rattle.c_tree.specs.Symbol.{Symbol, Sign}
use Rattle.c_tree.specs.Syntax.{Syntax, Outer, Declaration, Syntaxes, no_more, more}
use Rattle.c_tree.specs.Phrase.{Phrase, nothing, one, all, ◌⨾◌, phrase_then}
use Rattle.c_tree.specs.Tokens.{phrase_of, list_phrase, row_phrase, tokens_then}
use Rattle.c_grammar.specs.Names.{Names}
use Rattle.c_grammar.specs.Symbols.{begins}
use Rattle.c_grammar.proofs.Longer.{count, longer}
use Rattle.c_grammar.specs.UnitGrammar.Names.{declared}
use Rattle.c_grammar.specs.UnitGrammar.Declarations.{AreMembers, IsDeclaration}
use Rattle.c_grammar.specs.UnitGrammar.Statements.{AreBlockItems, AreStatements}
use Rattle.c_grammar.proofs.UnitGrammar.Fronts.{begins_member, member_begins, begins_statement, statement_begins}

lengths_all : (ss ts us : List Symbol) → length (ss ++ ts) + length us ≡ length (ss ++ us) + length ts
lengths_all [] ts us = omega arith
lengths_all (s ∷ ss) ts us = let a = lengths_all ss ts us in omega arith

-- a phrase adds as much to each list
lengths : (p : Phrase) (ts us : List Symbol) → length (phrase_then p ts) + length us ≡ length (phrase_then p us) + length ts
lengths nothing ts us = omega arith
lengths (one s) ts us = omega arith
lengths (all ss) ts us = lengths_all ss ts us
lengths (p ⨾ q) ts us = let a = lengths p (phrase_then q ts) (phrase_then q us) in let b = lengths q ts us in omega arith

some : (is : Symbol → Bool) (ts : List Symbol) → begins is ts ≡ true → 0 < length ts
some is [] h = cc
some is (t ∷ ts) h = omega arith

pub adds : (is : Symbol → Bool) (p : Phrase) (ts : List Symbol) → begins is (phrase_then p []) ≡ true → length ts < length (phrase_then p ts)
adds is p ts h = let a = lengths p ts [] in let b = some is (phrase_then p []) h in omega arith

pub longer_members : (names : Names) (es : Syntaxes) (ts : List Symbol) → AreMembers names es → count es + length ts ≤ length (phrase_then (row_phrase es) ts)
longer_members names no_more ts w = omega arith
longer_members names (more e es) ts w =
    let a = longer_members (declared e names) es ts w.1 in
    let b = adds (begins_member names) (phrase_of e) (phrase_then (row_phrase es) ts) (member_begins names e [] w.0) in
    omega arith

longer_statements : (names : Names) (es : Syntaxes) (ts : List Symbol) → AreStatements names es → count es + length ts ≤ length (phrase_then (row_phrase es) ts)
longer_statements names no_more ts w = omega arith
longer_statements names (more e es) ts w =
    let a = longer_statements names es ts w.1 in
    let b = adds begins_statement (phrase_of e) (phrase_then (row_phrase es) ts) (statement_begins names e [] w.0) in
    omega arith

declaration_adds : (names : Names) (e : Syntax) (ts : List Symbol) → IsDeclaration names e → length ts < length (tokens_then e ts)
declaration_adds names (Outer (Declaration specs declarators)) ts w =
    let a = longer (phrase_of specs ⨾ list_phrase declarators) (Sign marks.Semicolon ∷ ts) in omega arith
declaration_adds names _ ts w = absurd w

pub longer_items : (names : Names) (es : Syntaxes) (ts : List Symbol) → AreBlockItems names es → count es + length ts ≤ length (phrase_then (row_phrase es) ts)
longer_items names no_more ts w = omega arith
longer_items names (more e es) ts (inl w) =
    let a = longer_items (declared e names) es ts w.1 in
    let b = declaration_adds names e (phrase_then (row_phrase es) ts) w.0 in
    omega arith
longer_items names (more e es) ts (inr w) = longer_statements names (more e es) ts w
