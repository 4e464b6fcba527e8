-- The texts of files stand in them, are of the grammar, have the tables of their trees, and types.
use Rattle.std.proofs.Common.{◌≡◌, ◌+◌, ℕ, zero, suc, List, [], ◌∷◌, length, slice_get, Option, None, Some, sym, subst, arith}
use Rattle.c_grammar.specs.Names.{Names}
use Rattle.c_grammar.specs.UnitGrammar.Grammar.{AreParses}
use Rattle.c_grammar.specs.UnitGrammar.Names.{declared}
use Rattle.c_lexer.specs.CReading.Reading.{Lexeme}
use Rattle.c_lexer.specs.CReading.Strip.{stripped, stripped_behind, if_dropped, dropped_with, kept}
use Rattle.c_lexer.specs.Tokens.{AreTokens}
use Rattle.c_parser.specs.Units.{IsParseIn}
use Rattle.c_tree.specs.Forget.{syntaxes_of}
use Rattle.c_tree.specs.Syntax.{Syntaxes, no_more, more}
use Rattle.c_tree.specs.TokenPlaces.{AreOfFile, StandInFile}
use Rattle.c_tree.specs.declared.token.Token.{Token}
use Rattle.request_files.specs.Meanings.{IsSource, HaveTexts}
use Rattle.request_files.proofs.Unique.KeptTokens.{rises_stripped, tokens_rise}
use Rattle.type_rules.specs.Definition.{first_fault}
use Rattle.type_rules.specs.Unit.{places_of, table_by}
use Rattle.typed_unit.specs.Places.{StandOver}
use Rattle.typed_unit.specs.Texts.{Text}
use Rattle.event_places.specs.Bodies.{AreChunksOf, AreOfGrammar}
use Rattle.event_places.specs.Standing.{StandsIn, StandInFiles, HaveTheirTables, AreTyped}

tokens-of-file : (number : ℕ) (names : List (List ℕ)) (before : ℕ) (ls : List Lexeme) (ts : List Token) → AreTokens number names before ls ts → AreOfFile number ts
tokens-of-file number names before [] [] a = tt
tokens-of-file number names before [] (t ∷ ts) a = absurd a
tokens-of-file number names before (l ∷ ls) [] a = absurd a
tokens-of-file number names before (l ∷ ls) (t ∷ ts) a = (a.0.file, tokens-of-file number names (before + 1) ls ts a.1)

file-stripped : (n file : ℕ) (ts : List Token) → AreOfFile file ts → AreOfFile file (stripped_behind n ts)
unfolding stripped_behind
file-stripped zero file [] a = a
file-stripped (suc n) file [] a = a
file-stripped (suc n) file (t ∷ ts) a = file-stripped n file ts a.1
file-stripped zero file (t ∷ ts) a = by (dropped_with t.kind ts) (λ m. file-stripped m file ts a.1)
  where
    by : (o : Option ℕ) → ((m : ℕ) → AreOfFile file (stripped_behind m ts)) → AreOfFile file (if_dropped o (kept t ∷ stripped_behind 0 ts) (λ m. stripped_behind m ts))
    by None below = (a.0, below 0)
    by (Some m) below = below m

-- parses are of the grammar
parsed : (tokens : List Token) (known : Names) (es : Syntaxes) (chunks : List (ℕ × ℕ)) → AreParses (IsParseIn tokens) known es chunks → AreChunksOf known es
parsed tokens known no_more chunks h = tt
parsed tokens known (more e es) [] h = absurd h
parsed tokens known (more e es) (c ∷ chunks) h = (h.0.parse.well, parsed tokens (declared e known) es chunks h.1)

abbrev IsText : ℕ → Text → Type 0
IsText file t = StandsIn file t × AreChunksOf [] (syntaxes_of t.trees) × (t.table ≡ table_by t.trees) × (first_fault (places_of t.trees) ≡ None)

source-stands : (number : ℕ) (word : List ℕ) (before names : List (List ℕ)) (bytes : List ℕ) (t : Text) → IsSource number word before names bytes t → IsText number t
source-stands number word before names bytes t s =
    let rises = rises_stripped 0 0 s.list.all (0 + length s.list.all) (tokens_rise number names 0 _ s.list.all s.tokens.lexes.tokens) in
    let file = file-stripped 0 number s.list.all (tokens-of-file number names 0 _ s.list.all s.tokens.lexes.tokens) in (
      record {
        placed = subst (StandInFile number) (sym s.kept) (record { high = 0 + length s.list.all; rises = rises; of_file = file });
        standing = subst (StandOver t.trees) (sym s.kept) (s.typed.trees_are.high, s.typed.trees_are.stand);
      },
      parsed (stripped s.list.all) [] (syntaxes_of t.trees) s.typed.trees_are.bounds s.typed.trees_are.parses.parses,
      s.table,
      s.typed.fine,
    )

texts-from : (number : ℕ) (before names words contents : List (List ℕ)) (ts : List Text) → HaveTexts number before names words contents ts → (i : ℕ) (t : Text) → slice_get ts i ≡ Some t → IsText (number + i) t
texts-from number before names [] [] [] h i t e = cc
texts-from number before names (word ∷ words) (b ∷ bs) (u ∷ ts) h zero t e =
    let s : u ≡ t = cc in
    let n : number ≡ number + 0 = omega arith in
    subst (λ m. IsText m t) n (subst (IsText number) s (source-stands number word before h.0 b u h.1))
texts-from number before names (word ∷ words) (b ∷ bs) (u ∷ ts) h (suc i) t e =
    let n : (number + 1) + i ≡ number + suc i = omega arith in
    subst (λ m. IsText m t) n (texts-from (number + 1) h.0 names words bs ts h.2 i t e)
texts-from number before names [] [] (u ∷ ts) h i t e = absurd h
texts-from number before names [] (b ∷ bs) ts h i t e = absurd h
texts-from number before names (word ∷ words) [] ts h i t e = absurd h
texts-from number before names (word ∷ words) (b ∷ bs) [] h i t e = absurd h

-- THE TEXTS OF FILES
pub texts-stand : (before names words contents : List (List ℕ)) (ts : List Text) → HaveTexts 0 before names words contents ts → StandInFiles ts × AreOfGrammar ts × HaveTheirTables ts × AreTyped ts
texts-stand before names words contents ts h = (λ i t e. (at i t e).0, λ i t e. (at i t e).1, λ i t e. (at i t e).2, λ i t e. (at i t e).3)
  where
    at : (i : ℕ) (t : Text) → slice_get ts i ≡ Some t → IsText i t
    at i t e = let n : 0 + i ≡ i = omega arith in subst (λ m. IsText m t) n (texts-from 0 before names words contents ts h i t e)
