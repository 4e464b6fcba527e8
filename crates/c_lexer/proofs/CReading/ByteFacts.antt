-- How the classes of bytes lie to each other.
use Rattle.std.proofs.Common.{◌≡◌, ℕ, true, false, ◌&&◌, ◌||◌, ◌⊎◌, eqb, List, [], ◌∷◌, inl, inr, refl, arith}
use Rattle.std.proofs.lemmas.Bool.Decides.{nat_tests}
use Rattle.c_lexer.specs.CReading.Spellings.{begins_number}
use Rattle.c_lexer.proofs.CReading.Tests.{cases, both, either, same}
use Rattle.c_lexer.specs.CReading.Bytes.{is_digit, is_letter, is_word_byte, is_quote}

pub letter_no_digit : (c : ℕ) → is_letter c ≡ true → is_digit c ≡ false
unfolding is_letter is_digit
letter_no_digit c h = grind (arith, nat_tests)

pub letter_no_quote : (c : ℕ) → is_letter c ≡ true → is_quote c ≡ false
unfolding is_letter is_quote
letter_no_quote c h = grind (arith, nat_tests)

pub quote_no_digit : (c : ℕ) → is_quote c ≡ true → is_digit c ≡ false
unfolding is_quote is_digit
quote_no_digit c h = grind (arith, nat_tests)

pub quote_no_word_byte : (c : ℕ) → is_quote c ≡ true → is_word_byte c ≡ false
unfolding is_quote is_word_byte is_letter is_digit
quote_no_word_byte c h = grind (arith, nat_tests)

pub letter_no_dot : (c : ℕ) → is_letter c ≡ true → eqb c 46 ≡ false
unfolding is_letter
letter_no_dot c h = grind (arith, nat_tests)

pub quote_no_dot : (c : ℕ) → is_quote c ≡ true → eqb c 46 ≡ false
unfolding is_quote
quote_no_dot c h = grind (arith, nat_tests)

pub digit_word_byte : (c : ℕ) → is_digit c ≡ true → is_word_byte c ≡ true
unfolding is_word_byte
digit_word_byte c h = elim (cases (is_letter c)) as (λ _. (is_letter c || is_digit c) ≡ true) [ inl e ↦ rw e refl | inr e ↦ rw (e, h) refl ]

pub letter_no_number : (c : ℕ) (cs : List ℕ) → is_letter c ≡ true → begins_number (c ∷ cs) ≡ false
letter_no_number c [] h = letter_no_digit c h
letter_no_number c (d ∷ ds) h = rw (letter_no_digit c h, letter_no_dot c h) refl

pub quote_no_number : (c : ℕ) (cs : List ℕ) → is_quote c ≡ true → begins_number (c ∷ cs) ≡ false
quote_no_number c [] h = quote_no_digit c h
quote_no_number c (d ∷ ds) h = rw (quote_no_digit c h, quote_no_dot c h) refl

-- what begins a number is a digit, or a point before a digit
pub number_first : (c : ℕ) (cs : List ℕ) → begins_number (c ∷ cs) ≡ true → (is_digit c ≡ true) ⊎ ((c ≡ 46) × (d : ℕ) × (ds : List ℕ) × (cs ≡ d ∷ ds) × (is_digit d ≡ true))
number_first c [] h = inl h
number_first c (d ∷ ds) h = elim (either (is_digit c) (eqb c 46 && is_digit d) h) [
  | inl e ↦ inl e
  | inr e ↦ let b = both (eqb c 46) (is_digit d) e in inr (same c 46 b.0, d, ds, refl, b.1)
]

pub digit_begins : (c : ℕ) (cs : List ℕ) → is_digit c ≡ true → begins_number (c ∷ cs) ≡ true
digit_begins c [] h = h
digit_begins c (d ∷ ds) h = rw h refl

pub number_no_letter : (c : ℕ) (cs : List ℕ) → begins_number (c ∷ cs) ≡ true → is_letter c ≡ false
number_no_letter c cs h = elim (cases (is_letter c)) as (λ _. is_letter c ≡ false) [
  | inl e ↦ cc (letter_no_number c cs e)
  | inr e ↦ e
]
