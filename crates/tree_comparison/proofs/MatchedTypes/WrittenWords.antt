-- The words of a basic type among specifiers; more than four are none.
use Rattle.std.proofs.Common.{arith, ◌≡◌, ◌≤◌, ℕ, zero, suc, List, [], ◌∷◌, ◌++◌, length, take, drop, get_or, Bool, true, false, cond, Option, None, Some, refl, ◌∙◌, sym, ap, nat_eq, leb, leb-true}
use Rattle.std.specs.Prelude.{◌&&◌}
use Rattle.std.proofs.lemmas.Grind.{common_steps}
use Rattle.std.proofs.lemmas.List.{length-take, take_all}
use Rattle.c_grammar.specs.Specifiers.{as_often, same_words}
use Rattle.c_tree.specs.declared.keyword.Keyword.{Keyword}
use Rattle.c_tree.specs.Syntax.{Syntax, Syntaxes}
use Rattle.c_tree.specs.Syntax as syntax
use Rattle.c_tree.specs.Symbol as symbol
use Rattle.type_rules.specs.Options.{if_there}
use Rattle.type_rules.specs.Specified.{basic_types, basic_in, basic_type}
use Rattle.type_rules.specs.Types.{CType, Void}
use Rattle.hole_matching.specs.Written.{words_of}
use Rattle.tree_comparison.specs.MatchedTypes.Words.{word_of}

pub words-step : (e : Syntax) (es : Syntaxes) → words_of (syntax.more e es) ≡ if_there (word_of e) (words_of es) (λ k. k ∷ words_of es)
words-step (syntax.Primary k) es = refl
words-step (syntax.Operation k) es = refl
words-step (syntax.Initializer k) es = refl
words-step (syntax.Specifier k) es = refl
words-step (syntax.Declarator k) es = refl
words-step (syntax.Part (syntax.SpecWord (symbol.Word a))) es = refl
words-step (syntax.Part (syntax.SpecWord (symbol.Reserved a))) es = refl
words-step (syntax.Part (syntax.SpecWord (symbol.Sign a))) es = refl
words-step (syntax.Part (syntax.SpecWord (symbol.IntLiteral a b))) es = refl
words-step (syntax.Part (syntax.SpecWord (symbol.FloatLiteral a b))) es = refl
words-step (syntax.Part (syntax.SpecWord (symbol.CharLiteral a b))) es = refl
words-step (syntax.Part (syntax.SpecWord (symbol.StringLiteral a b))) es = refl
words-step (syntax.Part (syntax.ArrayBound a b)) es = refl
words-step (syntax.Part syntax.VoidParams) es = refl
words-step (syntax.Part (syntax.Params a b)) es = refl
words-step (syntax.Part (syntax.Enumerator a b)) es = refl
words-step (syntax.Part (syntax.MemberDesignator a)) es = refl
words-step (syntax.Part (syntax.IndexDesignator a)) es = refl
words-step (syntax.Outer k) es = refl
words-step (syntax.Statement k) es = refl
words-step (syntax.Iteration k) es = refl
words-step (syntax.Jump k) es = refl

-- what is kept of a beginning with more behind it is kept of the whole
kept-on : (n : ℕ) (xs ys : List Keyword) → take n (take n xs ++ ys) ≡ take n (xs ++ ys)
kept-on zero xs ys = refl
kept-on (suc n) [] ys = refl
kept-on (suc n) (x ∷ xs) ys = ap (λ zs. x ∷ zs) (kept-on n xs ys)

pub word_kept : (xs new : List Keyword) (k : Keyword) (e : Syntax) (es : Syntaxes) → new ≡ take 5 (xs ++ (k ∷ [])) → word_of e ≡ Some k
    → take 5 (new ++ words_of es) ≡ take 5 (xs ++ words_of (syntax.more e es))
word_kept xs new k e es h w =
    ap (λ z. take 5 (z ++ words_of es)) h
    ∙ kept-on 5 (xs ++ (k ∷ [])) (words_of es)
    ∙ ap (take 5) (let q : (xs ++ (k ∷ [])) ++ words_of es ≡ xs ++ (k ∷ words_of es) = grind (arith, common_steps) in q)
    ∙ sym (ap (λ o. take 5 (xs ++ if_there o (words_of es) (λ j. j ∷ words_of es))) w)
    ∙ sym (ap (λ z. take 5 (xs ++ z)) (words-step e es))

pub no_word : (xs : List Keyword) (e : Syntax) (es : Syntaxes) → word_of e ≡ None → take 5 (xs ++ words_of es) ≡ take 5 (xs ++ words_of (syntax.more e es))
no_word xs e es w =
    sym (ap (λ o. take 5 (xs ++ if_there o (words_of es) (λ j. j ∷ words_of es))) w)
    ∙ sym (ap (λ z. take 5 (xs ++ z)) (words-step e es))

-- those that are kept are five at most
pub few_kept : (n : ℕ) (all rest : List Keyword) → n ≤ 5 → rest ≡ [] → take n all ≡ take 5 (take n all ++ rest)
few_kept n all rest h e =
    let k = length-take n all in
    let f : length (take n all) ≤ 5 = grind (arith, k, h) in
    sym (ap (λ r. take 5 (take n all ++ r)) e ∙ ap (take 5) (let q : take n all ++ [] ≡ take n all = grind (arith, common_steps) in q) ∙ take_all 5 (take n all) f)

-- the lines of a table have four words at most
abbrev are_short : List (List Keyword × CType) → Bool
are_short [] = true
are_short (line ∷ lines) = leb (length line.0) 4 && are_short lines

both-true : (a b : Bool) → (a && b) ≡ true → (a ≡ true) × (b ≡ true)
both-true true b h = (refl, h)
both-true false b h = cc

none-same : (n m : ℕ) (b : Bool) → 5 ≤ n → leb m 4 ≡ true → (nat_eq n m && b) ≡ false
none-same n m b h k = let l = leb-true m 4 k in let e : nat_eq n m ≡ false = grind (arith, h, l) in ap (λ c. c && b) e

too-many : (ks : List Keyword) (lines : List (List Keyword × CType)) → 5 ≤ length ks → are_short lines ≡ true → basic_in ks lines ≡ Void
too-many ks [] h s = refl
too-many ks (line ∷ lines) h s =
    let both = both-true (leb (length line.0) 4) (are_short lines) s in
    ap (λ c. cond c line.1 (basic_in ks lines)) (none-same (length ks) (length line.0) (as_often ks ks line.0) h both.0)
    ∙ too-many ks lines h both.1

table-is-short : are_short basic_types ≡ true
table-is-short = refl

pub five_words : (ks : List Keyword) → basic_type (take 5 ks) ≡ basic_type ks
five_words (a ∷ b ∷ c ∷ d ∷ e ∷ ks) =
    too-many (a ∷ b ∷ c ∷ d ∷ e ∷ []) basic_types (grind arith) table-is-short ∙ sym (too-many (a ∷ b ∷ c ∷ d ∷ e ∷ ks) basic_types (grind arith) table-is-short)
five_words [] = refl
five_words (a ∷ []) = refl
five_words (a ∷ b ∷ []) = refl
five_words (a ∷ b ∷ c ∷ []) = refl
five_words (a ∷ b ∷ c ∷ d ∷ []) = refl
