-- There are no more tokens than bytes.
use Rattle.std.proofs.Common.{◌≡◌, ℕ, zero, suc, ◌≤◌, Bool, false, List, [], ◌∷◌, length, Option, None, Some, option_to_list, option_map, refl, sym, ap, ◌∙◌, arith, length-append}
use Rattle.std.proofs.lemmas.Bool.{false≢true}
use Rattle.c_tree.specs.declared.token.Token.{Token}
use Rattle.c_tree.specs.declared.token.TokenKind.{TokenKind}
use Rattle.c_lexer.specs.declared.c_reading.mode.Mode.{Mode}
use Rattle.c_lexer.specs.declared.c_reading.mode.Mode.TheVariants.{C}
use Rattle.c_lexer.specs.CReading.Punctuators.{punctuator_of, punctuators}
use Rattle.c_lexer.specs.CReading.Pieces.{Piece, Space, Comment, LineComment, MarkerLine, Spelling, bytes_of, Here, behind}
use Rattle.c_lexer.specs.CReading.Reading.{Cuts, IsNext, lexeme_at, lexeme_of, lexemes}
use Rattle.c_lexer.specs.CReading.Spellings.{is_spelling, is_word, is_number, is_literal, kind_of}
use Rattle.c_lexer.specs.CReading.Strip.{stripped, stripped_behind, if_dropped, dropped_with, kept}

-- no spelling is empty
empty : (mode : Mode) → is_spelling mode [] ≡ false
unfolding is_spelling is_word is_number is_literal punctuator_of punctuators
empty mode = refl

-- a piece gives a token at most, and that has a byte
piece-few : (h : Here) (first : Bool) (p : Piece) (rest : List ℕ) → IsNext C first p rest → length (lexeme_at C h p) ≤ length (bytes_of p)
piece-few h first (Space b) rest n = omega arith
piece-few h first (Comment text) rest n = omega arith
piece-few h first (LineComment text) rest n = omega arith
piece-few h first (MarkerLine text ended) rest n = omega arith
piece-few h first (Spelling []) rest n = absurd (false≢true (sym (empty C) ∙ n.2.spelling))
piece-few h first (Spelling (b ∷ bs)) rest n = by (kind_of C (b ∷ bs))
  where
    by : (k : Option TokenKind) → length (option_to_list (option_map (lexeme_of h (b ∷ bs)) k)) ≤ length (b ∷ bs)
    by None = omega arith
    by (Some k) = omega arith

pieces-few : (h : Here) (ps : List Piece) (bytes rest : List ℕ) → Cuts C h ps bytes rest → length (lexemes C h ps) ≤ length bytes
pieces-few h [] bytes rest c = omega arith
pieces-few h (p ∷ ps) bytes rest c =
    let a = piece-few h h.first p c.0 c.2 in
    let b = pieces-few (behind h p) ps c.0 rest c.3 in
    let d = length-append (bytes_of p) c.0 in
    let e = length-append (lexeme_at C h p) (lexemes C (behind h p) ps) in
    omega (arith, a, b, d, e, ap length c.1)

pub few_lexemes : (h : Here) (ps : List Piece) (bytes : List ℕ) → Cuts C h ps bytes [] → length (lexemes C h ps) ≤ length bytes
few_lexemes h ps bytes c = pieces-few h ps bytes [] c

-- no more tokens are kept than there are
kept-few : (n : ℕ) (ts : List Token) → length (stripped_behind n ts) ≤ length ts
unfolding stripped_behind
kept-few n [] = omega arith
kept-few (suc n) (t ∷ ts) = let a = kept-few n ts in omega (arith, a)
kept-few zero (t ∷ ts) = by (dropped_with t.kind ts) (λ n. kept-few n ts)
  where
    by : (d : Option ℕ) → ((n : ℕ) → length (stripped_behind n ts) ≤ length ts) → length (if_dropped d (kept t ∷ stripped_behind 0 ts) (λ n. stripped_behind n ts)) ≤ length (t ∷ ts)
    by None below = let a = below 0 in omega (arith, a)
    by (Some n) below = let a = below n in omega (arith, a)

pub few_stripped : (ts : List Token) → length (stripped ts) ≤ length ts
few_stripped ts = kept-few 0 ts
