-- What is taken off bytes, as the definition has it.
use Rattle.std.proofs.Common.{◌≡◌, ℕ, ◌+◌, ◌≤◌, true, List, [], ◌∷◌, length, take, Some, unwrap_or, refl, ap, sym, ◌∙◌, arith}
use Rattle.std.specs.List.{prefix_len}
use Rattle.c_tree.specs.declared.token.TokenKind.{TokenKind}
use Rattle.c_lexer.specs.declared.c_reading.mode.Mode.{Mode}
use Rattle.c_lexer.specs.CReading.Bytes.{is_letter, is_word_byte}
use Rattle.c_lexer.specs.CReading.Words.{word_kind}
use Rattle.c_lexer.specs.CReading.Spellings.{literal_len, kind_of}
use Rattle.c_lexer.specs.Ways.Cutting.{word_len, word_or_literal}
use Rattle.c_lexer.proofs.CReading.ClassKinds.{kind-word}
use Rattle.c_lexer.proofs.CReading.Scans.{behind_first, behind_cons}
use Rattle.c_lexer.specs.Found.{BeginsWith}

word_len_is : (c : ℕ) (cs : List ℕ) (n : ℕ) → is_letter c ≡ true → n ≡ prefix_len is_word_byte cs → word_len (c ∷ cs) ≡ n + 1
unfolding word_len
word_len_is c cs n h e = rw (h, ← e) refl

-- a word where no literal is
pub word_gives : (mode : Mode) (first : ℕ) (bs : List ℕ) (n : ℕ) (kind : TokenKind) → BeginsWith first bs → is_letter first ≡ true → unwrap_or (literal_len bs) 0 ≡ 0 → n ≡ prefix_len is_word_byte (behind_first bs) → n ≤ length (behind_first bs) → kind ≡ word_kind (take (n + 1) bs) → (word_or_literal bs ≡ n + 1) × (1 ≤ n + 1) × (n + 1 ≤ length bs) × (kind_of mode (take (n + 1) bs) ≡ Some kind)
word_gives mode first [] n kind f l z p w k = absurd f
word_gives mode first (c ∷ cs) n kind f l z p w k =
    let b : behind_first (c ∷ cs) ≡ cs = behind_cons c cs in
    let letter : is_letter c ≡ true = ap is_letter f ∙ l in
    let len : word_len (c ∷ cs) ≡ n + 1 = word_len_is c cs n letter (p ∙ ap (prefix_len is_word_byte) b) in
    let fits : n ≤ length cs = rw (ap length b) at w in
    let q : kind_of mode (take (n + 1) (c ∷ cs)) ≡ Some (word_kind (take (n + 1) (c ∷ cs))) = rw len at (kind-word mode c cs letter) in
    (rw z len, omega arith, omega arith, q ∙ ap Some (sym k))
