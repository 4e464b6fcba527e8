-- Presumed files of faults are names, and what is kept of tokens.
use Rattle.std.proofs.Common.{◌≡◌, ◌≤◌, ◌+◌, ℕ, zero, suc, inl, inr, Bool, true, false, if◌then◌else◌, ◌==◌, List, [], ◌∷◌, ◌++◌, length, Option, None, Some, sym, ap, ◌∙◌, subst, arith}
use Rattle.c_tree.specs.declared.place.Place.{Place}
use Rattle.c_tree.specs.declared.token.Token.{Token}
use Rattle.c_lexer.specs.declared.c_reading.mode.Mode.{Mode}
use Rattle.c_lexer.specs.CReading.Pieces.{Piece}
use Rattle.c_lexer.specs.CReading.Reading.{Lexeme}
use Rattle.c_lexer.specs.CReading.Strip.{stripped, stripped_behind, if_dropped, dropped_with, kept}
use Rattle.c_lexer.specs.Tokens.{TokenList, AreTokens, Lexes, position_of}
use Rattle.c_lexer.specs.declared.fault.Spot.{Spot}
use Rattle.request_files.specs.declared.fault.Fault.{Fault}
use Rattle.request_files.specs.declared.fault.Fault.TheVariants.{Syntax}
use Rattle.request_files.specs.declared.front_end.refusal.Faulty.{Faulty}
use Rattle.request_files.specs.FrontEnd.Faults.{of_typing, place_of}
use Rattle.request_files.specs.FrontEnd.Checkers.{HasNoMachine}
use Rattle.request_files.specs.FrontEnd.Found.{line_of_first, stands_at}
use Rattle.request_files.specs.Faults.{without_dropped, HasNoUnitAt}
use Rattle.request_files.specs.Ways.Stages.{IsNamed, AreNamed, AreKnown}

tokens_named : (number : ℕ) (names : List (List ℕ)) (before : ℕ) (ls : List Lexeme) (ts : List Token) → AreTokens number names before ls ts → AreNamed names ts
tokens_named number names before [] [] a = tt
tokens_named number names before [] (t ∷ ts) a = absurd a
tokens_named number names before (l ∷ ls) [] a = absurd a
tokens_named number names before (l ∷ ls) (t ∷ ts) a = ((l.here.file, a.0.source), tokens_named number names (before + 1) ls ts a.1)

-- of the tokens of a file
pub lexed_known : (mode : Mode) (number : ℕ) (word : List ℕ) (names : List (List ℕ)) (pieces : List Piece) (list : TokenList) → Lexes mode number word names pieces list → AreKnown names list
lexed_known mode number word names pieces list x = record {
  all = tokens_named number names 0 _ list.all x.tokens;
  end = (_, x.end.source);
}

-- of those that are kept
kept_named : (names : List (List ℕ)) (n : ℕ) (ts : List Token) → AreNamed names ts → AreNamed names (stripped_behind n ts)
unfolding stripped_behind
kept_named names n [] a = tt
kept_named names (suc n) (t ∷ ts) a = kept_named names n ts a.1
kept_named names zero (t ∷ ts) a = by (dropped_with t.kind ts) (λ n. kept_named names n ts a.1)
  where
    by : (d : Option ℕ) → ((n : ℕ) → AreNamed names (stripped_behind n ts)) → AreNamed names (if_dropped d (kept t ∷ stripped_behind 0 ts) (λ n. stripped_behind n ts))
    by None below = (a.0, below 0)
    by (Some n) below = below n

position_named : (names : List (List ℕ)) (ts : List Token) (end : Spot) (n : ℕ) → AreNamed names ts → IsNamed names end.source → IsNamed names (position_of ts end n).0
position_named names [] end n a e = e
position_named names (t ∷ ts) end n a e = by (t.place.token == n) (position_named names ts end n a.1 e)
  where
    by : (b : Bool) → IsNamed names (position_of ts end n).0 → IsNamed names (if b then (t.source, t.line, t.col) else position_of ts end n).0
    by true below = a.0
    by false below = below

-- at a token of the kept ones
place_named : (names : List (List ℕ)) (list : TokenList) (fault : Fault) (place : Place) → AreKnown names list → IsNamed names (stands_at (without_dropped list) fault place.token).source
place_named names list fault place k = position_named names (stripped list.all) list.end place.token (kept_named names 0 list.all k.all) k.end

pub no_unit_named : (names : List (List ℕ)) (list : TokenList) (found : Faulty) → AreKnown names list → HasNoUnitAt list found → IsNamed names found.source
no_unit_named names list found k (inl t) = subst (λ f. IsNamed names f.source) (sym t.there) (place_named names list Syntax t.place k)
no_unit_named names list found k (inr t) = subst (λ f. IsNamed names f.source) (sym t.there) (place_named names list (of_typing t.fault) (place_of t.fault) k)

-- at the first of the tokens behind others
behind_named : (names : List (List ℕ)) (before behind : List Token) → AreNamed names (before ++ behind) → AreNamed names behind
behind_named names [] behind a = a
behind_named names (t ∷ before) behind a = behind_named names before behind a.1

first_named : (names : List (List ℕ)) (ts : List Token) (end : Spot) → AreNamed names ts → IsNamed names end.source → IsNamed names (line_of_first ts end).0
first_named names [] end a e = e
first_named names (t ∷ ts) end a e = a.0

pub no_machine_named : (names : List (List ℕ)) (list : TokenList) (found : Faulty) → AreKnown names list → HasNoMachine names list found → IsNamed names found.source
no_machine_named names list found k h =
    subst (λ f. IsNamed names f.source) (sym h.there) (first_named names h.behind list.end (behind_named names h.before h.behind (subst (AreNamed names) h.parts k.all)) k.end)

-- no more tokens are kept than there are
kept_few : (n : ℕ) (ts : List Token) → length (stripped_behind n ts) ≤ length ts
unfolding stripped_behind
kept_few n [] = omega arith
kept_few (suc n) (t ∷ ts) = let a = kept_few n ts in omega arith
kept_few zero (t ∷ ts) = by (dropped_with t.kind ts) (λ n. kept_few n ts)
  where
    by : (d : Option ℕ) → ((n : ℕ) → length (stripped_behind n ts) ≤ length ts) → length (if_dropped d (kept t ∷ stripped_behind 0 ts) (λ n. stripped_behind n ts)) ≤ length (t ∷ ts)
    by None below = let a = below 0 in omega arith
    by (Some n) below = let a = below n in omega arith

pub stripped_few : (ts left : List Token) → left ≡ stripped ts → length left ≤ length ts
stripped_few ts left e = let a = kept_few 0 ts in omega (arith, ap length e)

pub same_list : (list left : TokenList) → left.all ≡ stripped list.all → left.end ≡ list.end → left ≡ without_dropped list
same_list list left a e = ap (λ (ts : List Token). record { all = ts; end = left.end }) a ∙ ap (λ (s : Spot). record { all = stripped list.all; end = s }) e
