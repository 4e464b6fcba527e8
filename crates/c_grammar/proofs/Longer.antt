-- Phrases and rows are as long as their parts.
use Rattle.std.proofs.Common.{ℕ, ◌+◌, ◌≤◌, List, [], ◌∷◌, ◌++◌, length, arith}
use Rattle.c_tree.specs.declared.punctuator.Punctuator.TheVariants as marks
use Rattle.c_tree.specs.Symbol.{Symbol}
use Rattle.c_tree.specs.Syntax.{Part, ArrayBound, VoidParams, Params, MemberDesignator, IndexDesignator, Syntaxes, no_more, more}
use Rattle.c_tree.specs.Phrase.{Phrase, nothing, one, all, ◌⨾◌, phrase_then, sign}
use Rattle.c_tree.specs.Tokens.{phrase_of, maybe_phrase, list_phrase, ellipsis_if, row_phrase, more_phrase}
use Rattle.c_grammar.specs.Names.{Names}
use Rattle.c_grammar.specs.Grammar.{AreSuffixes, IsPath}

abbrev pub count : Syntaxes → ℕ
count no_more = 0
count (more e es) = count es + 1

longer_all : (ss ts : List Symbol) → length ts ≤ length (ss ++ ts)
longer_all [] ts = omega arith
longer_all (s ∷ ss) ts = let a = longer_all ss ts in omega arith

pub longer : (p : Phrase) (ts : List Symbol) → length ts ≤ length (phrase_then p ts)
longer nothing ts = omega arith
longer (one s) ts = omega arith
longer (all ss) ts = longer_all ss ts
longer (p ⨾ q) ts = let a = longer p (phrase_then q ts) in let b = longer q ts in omega arith

-- a comma stands before each
pub longer_more : (es : Syntaxes) (ts : List Symbol) → count es + length ts ≤ length (phrase_then (more_phrase es) ts)
longer_more no_more ts = omega arith
longer_more (more e es) ts =
    let a = longer_more es ts in
    let b = longer (phrase_of e) (phrase_then (more_phrase es) ts) in
    omega arith

-- a suffix begins with a bracket or a parenthesis
pub longer_suffixes : (names : Names) (es : Syntaxes) (ts : List Symbol) → AreSuffixes names es → count es + length ts ≤ length (phrase_then (row_phrase es) ts)
longer_suffixes names no_more ts w = omega arith
longer_suffixes names (more (Part (ArrayBound words bound)) es) ts w =
    let X = phrase_then (row_phrase es) ts in
    let a = longer_suffixes names es ts w.1 in
    let b = longer (all words ⨾ maybe_phrase bound ⨾ sign marks.CloseBracket) X in
    omega arith
longer_suffixes names (more (Part VoidParams) es) ts w = let a = longer_suffixes names es ts w.1 in omega arith
longer_suffixes names (more (Part (Params params variadic)) es) ts w =
    let X = phrase_then (row_phrase es) ts in
    let a = longer_suffixes names es ts w.1 in
    let b = longer (list_phrase params ⨾ ellipsis_if variadic ⨾ sign marks.CloseParen) X in
    omega arith
longer_suffixes names (more _ es) ts w = absurd w.0

-- a designator begins with a dot or a bracket
pub longer_path : (names : Names) (es : Syntaxes) (ts : List Symbol) → IsPath names es → count es + length ts ≤ length (phrase_then (row_phrase es) ts)
longer_path names no_more ts w = omega arith
longer_path names (more (Part (MemberDesignator member)) es) ts w = let a = longer_path names es ts w.1 in omega arith
longer_path names (more (Part (IndexDesignator index)) es) ts w =
    let X = phrase_then (row_phrase es) ts in
    let a = longer_path names es ts w.1 in
    let b = longer (phrase_of index ⨾ sign marks.CloseBracket) X in
    omega arith
longer_path names (more _ es) ts w = absurd w.0
