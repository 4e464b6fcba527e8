-- A word is found among those of its length where it is found among all.
use Rattle.std.proofs.Common.{◌≡◌, ℕ, Bool, true, false, cond, eqb, ◌||◌, List, [], ◌∷◌, length, Option, None, Some, refl, ap, sym, ◌∙◌}
use Rattle.std.specs.Str.{bytes_eq}
use Rattle.std.specs.List.{list_all}
use Rattle.c_lexer.specs.CReading.Words.{Words, find_text, special_words}
use Rattle.c_lexer.specs.Ways.WordsByLength.{of_length, words_of}
use Rattle.c_lexer.proofs.CReading.Tests.{same, same_true}
use Rattle.c_lexer.proofs.CReading.Tables.{same_bytes, not_found}

found_of_length : {K : Type 0} (text : List ℕ) (es : List (List ℕ × K)) → find_text text (of_length (length text) es) ≡ find_text text es
found_of_length text [] = refl
found_of_length text (e ∷ es) = by (eqb (length e.0) (length text)) (bytes_eq text e.0) refl refl (found_of_length text es)
  where
    by : (b c : Bool) → eqb (length e.0) (length text) ≡ b → bytes_eq text e.0 ≡ c → find_text text (of_length (length text) es) ≡ find_text text es
        → find_text text (of_length (length text) (e ∷ es)) ≡ find_text text (e ∷ es)
    by true c p q h = rw p (ap (cond (bytes_eq text e.0) (Some e.1)) h)
    by false true p q h = let t : eqb (length e.0) (length text) ≡ true = same_true (length e.0) (length text) (ap length (sym (same_bytes text e.0 q))) in cc
    by false false p q h = rw (p, q) h

-- one length more that a word may have
one_length : (text : List ℕ) (n : ℕ) (others : Words) → (eqb (length text) n ≡ false → find_text text others ≡ find_text text special_words)
    → find_text text (cond (eqb (length text) n) (of_length n special_words) others) ≡ find_text text special_words
one_length text n others h = by (eqb (length text) n) refl
  where
    by : (b : Bool) → eqb (length text) n ≡ b → find_text text (cond b (of_length n special_words) others) ≡ find_text text special_words
    by true e = ap (λ m. find_text text (of_length m special_words)) (sym (same (length text) n e)) ∙ found_of_length text special_words
    by false e = h e

abbrev is_of_length : List ℕ → Bool
is_of_length text = eqb (length text) 2 || (eqb (length text) 3 || (eqb (length text) 4 || (eqb (length text) 5 || (eqb (length text) 6 || (eqb (length text) 7 || (eqb (length text) 8 || (eqb (length text) 9 || (eqb (length text) 10 || (eqb (length text) 11 || (eqb (length text) 12 || (eqb (length text) 13 || (eqb (length text) 16 || (eqb (length text) 17 || (eqb (length text) 18 || (eqb (length text) 19)))))))))))))))

all_listed : list_all (λ e. is_of_length e.0) special_words ≡ true
unfolding special_words
all_listed = refl

pub word_by_length : (text : List ℕ) → find_text text (words_of (length text)) ≡ find_text text special_words
unfolding words_of
word_by_length text =
    one_length text 2 _ (λ h2.
    one_length text 3 _ (λ h3.
    one_length text 4 _ (λ h4.
    one_length text 5 _ (λ h5.
    one_length text 6 _ (λ h6.
    one_length text 7 _ (λ h7.
    one_length text 8 _ (λ h8.
    one_length text 9 _ (λ h9.
    one_length text 10 _ (λ h10.
    one_length text 11 _ (λ h11.
    one_length text 12 _ (λ h12.
    one_length text 13 _ (λ h13.
    one_length text 16 _ (λ h16.
    one_length text 17 _ (λ h17.
    one_length text 18 _ (λ h18.
    one_length text 19 _ (λ h19.
    sym (not_found is_of_length text special_words all_listed (rw (h2, h3, h4, h5, h6, h7, h8, h9, h10, h11, h12, h13, h16, h17, h18, h19) refl))))))))))))))))))
