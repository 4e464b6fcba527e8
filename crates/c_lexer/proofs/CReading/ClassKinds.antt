-- What a spelling is, by its class.
use Rattle.std.proofs.Common.{◌≡◌, ℕ, ◌≤◌, true, false, List, [], ◌∷◌, ◌++◌, length, take, Some, is_some, inl, inr, refl, ap, sym, ◌∙◌}
use Rattle.std.proofs.lemmas.List.{append-nil}
use Rattle.c_tree.specs.declared.punctuator.Punctuator.{Punctuator}
use Rattle.c_tree.specs.declared.token.TokenKind.TheVariants as kinds
use Rattle.c_lexer.specs.declared.c_reading.mode.Mode.{Mode}
use Rattle.c_lexer.specs.CReading.Bytes.{is_digit, is_letter, is_word_byte, is_quote}
use Rattle.c_lexer.specs.CReading.Words.{word_kind}
use Rattle.c_lexer.specs.CReading.Punctuators.{punctuator_of}
use Rattle.c_lexer.specs.CReading.Constants.{number_kind}
use Rattle.c_lexer.specs.CReading.Spellings.{is_word, is_number, is_literal, begins_number, literal_len, literal_kind, kind_of}
use Rattle.c_lexer.specs.Ways.Cutting.{word_len, number_len}
use Rattle.c_lexer.proofs.CReading.Tests.{cases}
use Rattle.c_lexer.proofs.CReading.ByteFacts.{letter_no_number, number_no_letter, quote_no_number, quote_no_word_byte}
use Rattle.c_lexer.proofs.CReading.Classes.{word-taken, number_begins, number-taken, number-some, literal-there, literal-taken, PlainFirst, punctuator_first}
use Rattle.c_lexer.proofs.CReading.Longest.{literal_first}

kind_of-word : (mode : Mode) (s : List ℕ) → is_word s ≡ true → kind_of mode s ≡ Some (word_kind s)
unfolding kind_of
kind_of-word mode s h = rw h refl

no_word : (c : ℕ) (cs : List ℕ) → is_letter c ≡ false → is_word (c ∷ cs) ≡ false
unfolding is_word
no_word c cs l = rw l refl

number_no_word : (s : List ℕ) → is_number s ≡ true → is_word s ≡ false
unfolding is_number
number_no_word [] h = cc
number_no_word (c ∷ cs) h = no_word c cs (number_no_letter c cs (number_begins c cs h))

kind_of-number : (mode : Mode) (s : List ℕ) → is_number s ≡ true → kind_of mode s ≡ number_kind s
unfolding kind_of
kind_of-number mode s h = rw (number_no_word s h, h) refl

no_number : (c : ℕ) (cs : List ℕ) → begins_number (c ∷ cs) ≡ false → is_number (c ∷ cs) ≡ false
unfolding is_number
no_number c cs b = rw b refl

letter_word_byte : (c : ℕ) → is_letter c ≡ true → is_word_byte c ≡ true
unfolding is_word_byte
letter_word_byte c h = rw h refl

l_letter : is_letter 76 ≡ true
unfolding is_letter
l_letter = refl

l_then : (d : ℕ) (ds : List ℕ) → is_quote d ≡ true → is_word (76 ∷ d ∷ ds) ≡ false
unfolding is_word
l_then d ds q = rw (l_letter, quote_no_word_byte d q) refl

letter_not_quote : (c : ℕ) → is_quote c ≡ true → is_letter c ≡ false
letter_not_quote c q = elim (cases (is_letter c)) as (λ _. is_letter c ≡ false) [ inl l ↦ absurd (clash c l q) | inr l ↦ l ]
  where
    clash : (c : ℕ) → is_letter c ≡ true → is_quote c ≡ true → ⊥
    clash c l q = let w = quote_no_word_byte c q in let v = letter_word_byte c l in cc

-- a literal is neither a word nor a number
literal_other : (s : List ℕ) → is_literal s ≡ true → (is_word s ≡ false) × (is_number s ≡ false)
unfolding is_literal
literal_other [] h = cc
literal_other (c ∷ cs) h = elim (literal_first c (cs ++ []) (length (c ∷ cs)) (literal-there (c ∷ cs) [] h)) as (λ _. (is_word (c ∷ cs) ≡ false) × (is_number (c ∷ cs) ≡ false)) [
  | inl t ↦ prefixed t.0 t.1 t.2 (sym (append-nil cs) ∙ t.3) t.4
  | inr q ↦ let l = letter_not_quote c q in (no_word c cs l, no_number c cs (quote_no_number c cs q))
]
  where
    prefixed : c ≡ 76 → (d : ℕ) (ds : List ℕ) → cs ≡ d ∷ ds → is_quote d ≡ true → (is_word (c ∷ cs) ≡ false) × (is_number (c ∷ cs) ≡ false)
    prefixed e d ds k q = (rw (e, k) (l_then d ds q), rw e (no_number 76 cs (letter_no_number 76 cs l_letter)))

kind_of-literal : (mode : Mode) (s : List ℕ) → is_literal s ≡ true → kind_of mode s ≡ Some (literal_kind s)
unfolding kind_of
kind_of-literal mode s h = let o = literal_other s h in rw (o.0, o.1, h) refl

plain_number : (c : ℕ) (cs : List ℕ) → is_digit c ≡ false → (begins_number (c ∷ (cs ++ [])) ≡ true → cs ≡ []) → begins_number (c ∷ cs) ≡ false
plain_number c [] d n = d
plain_number c (x ∷ xs) d n = elim (cases (begins_number (c ∷ x ∷ xs))) as (λ _. begins_number (c ∷ x ∷ xs) ≡ false) [
  | inl e ↦ cc (n e)
  | inr e ↦ e
]

plain_literal : (c : ℕ) (cs : List ℕ) → is_letter c ≡ false → is_quote c ≡ false → is_literal (c ∷ cs) ≡ false
plain_literal c cs l q = elim (cases (is_literal (c ∷ cs))) as (λ _. is_literal (c ∷ cs) ≡ false) [
  | inl e ↦ elim (literal_first c (cs ++ []) (length (c ∷ cs)) (literal-there (c ∷ cs) [] e)) as (λ _. is_literal (c ∷ cs) ≡ false) [
    | inl t ↦ let k : is_letter c ≡ true = ap is_letter t.0 ∙ l_letter in cc
    | inr r ↦ cc
  ]
  | inr e ↦ e
]

-- a punctuator is of no other class
punctuator_other : (s : List ℕ) → PlainFirst s → (is_word s ≡ false) × (is_number s ≡ false) × (is_literal s ≡ false)
punctuator_other s f = rw (f.is) (by f.first f.rest f.no_letter f.no_digit f.no_quote (f.no_digit_behind [] 0))
  where
    by : (c : ℕ) (cs : List ℕ) → is_letter c ≡ false → is_digit c ≡ false → is_quote c ≡ false → (begins_number (c ∷ (cs ++ [])) ≡ true → cs ≡ []) → (is_word (c ∷ cs) ≡ false) × (is_number (c ∷ cs) ≡ false) × (is_literal (c ∷ cs) ≡ false)
    by c cs l d q n = (no_word c cs l, no_number c cs (plain_number c cs d n), plain_literal c cs l q)

kind_of-punctuator : (mode : Mode) (s : List ℕ) (p : Punctuator) → punctuator_of mode s ≡ Some p → kind_of mode s ≡ Some (kinds.Punct p)
unfolding kind_of
kind_of-punctuator mode s p h =
    let i : is_some (punctuator_of mode s) ≡ true = ap is_some h in
    let o = punctuator_other s (punctuator_first mode s i) in
    rw (o.0, o.1, o.2, h) refl

-- ---- of what is taken off bytes

pub kind-word : (mode : Mode) (c : ℕ) (cs : List ℕ) → is_letter c ≡ true → kind_of mode (take (word_len (c ∷ cs)) (c ∷ cs)) ≡ Some (word_kind (take (word_len (c ∷ cs)) (c ∷ cs)))
kind-word mode c cs h = kind_of-word mode (take (word_len (c ∷ cs)) (c ∷ cs)) (word-taken c cs h)

pub kind-number : (mode : Mode) (c : ℕ) (cs : List ℕ) → begins_number (c ∷ cs) ≡ true → kind_of mode (take (number_len (c ∷ cs)) (c ∷ cs)) ≡ number_kind (take (number_len (c ∷ cs)) (c ∷ cs))
kind-number mode c cs h = kind_of-number mode (take (number_len (c ∷ cs)) (c ∷ cs)) (number-taken c cs h)

pub kind-literal : (mode : Mode) (bs : List ℕ) (n : ℕ) → literal_len bs ≡ Some n → kind_of mode (take n bs) ≡ Some (literal_kind (take n bs))
kind-literal mode bs n h = kind_of-literal mode (take n bs) (literal-taken bs n h).0

pub kind-punctuator : (mode : Mode) (s : List ℕ) (p : Punctuator) → punctuator_of mode s ≡ Some p → kind_of mode s ≡ Some (kinds.Punct p)
kind-punctuator mode s p h = kind_of-punctuator mode s p h

-- the first byte of a word, and its kind, by the bytes behind it
pub word_kind_is : (mode : Mode) (bs : List ℕ) (c : ℕ) → is_letter c ≡ true → (rest : List ℕ) → bs ≡ c ∷ rest → kind_of mode (take (word_len bs) bs) ≡ Some (word_kind (take (word_len bs) bs))
word_kind_is mode bs c h rest e = rw e (kind-word mode c rest h)

pub number_kind_is : (mode : Mode) (bs : List ℕ) → begins_number bs ≡ true → kind_of mode (take (number_len bs) bs) ≡ number_kind (take (number_len bs) bs)
number_kind_is mode [] h = cc
number_kind_is mode (c ∷ cs) h = kind-number mode c cs h

-- a number is there where it begins
pub number_there : (bs : List ℕ) → begins_number bs ≡ true → 1 ≤ number_len bs
number_there [] h = cc
number_there (c ∷ cs) h = number-some c cs h

pub ruleset literal_kinds = (kind-literal)

pub ruleset word_kinds = (kind-word)

pub ruleset number_kinds = (number_kind_is, number_there)

pub ruleset punctuator_kinds = (kind-punctuator)
