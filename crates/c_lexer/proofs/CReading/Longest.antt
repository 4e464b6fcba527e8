-- The longest spelling in front of bytes is as long as is computed.
use Rattle.std.proofs.Common.{◌≡◌, ℕ, suc, zero, ◌+◌, ◌-◌, ◌≤◌, ◌<◌, Bool, true, false, cond, not, ◌&&◌, ◌||◌, ◌⊎◌, eqb, List, [], ◌∷◌, ◌++◌, length, take, drop, Option, None, Some, is_some, unwrap_or, inl, inr, refl, ap, sym, ◌∙◌, arith, append_assoc, length-append}
use Rattle.std.proofs.lemmas.List.{take_at, take-append-drop, length-take-le, nil_from_length}
use Rattle.c_lexer.specs.declared.c_reading.mode.Mode.{Mode}
use Rattle.c_lexer.specs.CReading.Bytes.{is_letter, is_quote, begins}
use Rattle.c_lexer.specs.CReading.Spellings.{is_word, is_number, is_literal, is_spelling, begins_number, literal_len, unprefixed_len}
use Rattle.c_lexer.specs.CReading.Punctuators.{punctuator_of}
use Rattle.c_lexer.specs.CReading.Scans.{plus}
use Rattle.c_lexer.specs.CReading.Reading.{IsLongest}
use Rattle.c_lexer.specs.Ways.Cutting.{word_len, number_len, punctuator_len, word_or_literal, spelling_len}
use Rattle.c_lexer.proofs.CReading.Tests.{cases, both, either, chosen, taken, mapped, same, not_zero}
use Rattle.c_lexer.proofs.CReading.ByteFacts.{letter_no_quote, number_no_letter, quote_no_number, quote_no_word_byte}
use Rattle.c_lexer.proofs.CReading.Classes.{word-bound, word-taken, word-le, word_first, number-bound, number-taken, number-le, number-some, number_begins-append, literal-there, literal-taken, punctuator_first, punctuator-bound, punctuator-taken}

-- ---- where a literal begins

-- its first byte is `L` before a quote, or a quote
pub literal_first : (c : ℕ) (cs : List ℕ) (n : ℕ) → literal_len (c ∷ cs) ≡ Some n → ((c ≡ 76) × (d : ℕ) × (ds : List ℕ) × (cs ≡ d ∷ ds) × (is_quote d ≡ true)) ⊎ (is_quote c ≡ true)
unfolding literal_len
literal_first c cs n h = elim (chosen (eqb c 76) _ _ (Some n) h) [
  | inl t ↦ inl (prefixed (same c 76 t.0) cs t.1)
  | inr t ↦ inr (both (is_quote c) (not (eqb c 39 && begins 39 cs)) (taken (is_quote c && not (eqb c 39 && begins 39 cs)) _ n t.1).0).0
]
  where
    quote : (m : ℕ) (d : ℕ) (ds : List ℕ) → unprefixed_len (d ∷ ds) ≡ Some m → is_quote d ≡ true
    quote m d ds k = (both (is_quote d) (not (eqb d 39 && begins 39 ds)) (taken (is_quote d && not (eqb d 39 && begins 39 ds)) _ m k).0).0

    prefixed : c ≡ 76 → (cs : List ℕ) → plus 1 (unprefixed_len cs) ≡ Some n → (c ≡ 76) × (d : ℕ) × (ds : List ℕ) × (cs ≡ d ∷ ds) × (is_quote d ≡ true)
    prefixed e [] k = cc
    prefixed e (d ∷ ds) k = let m = mapped 1 (unprefixed_len (d ∷ ds)) n k in (e, d, ds, refl, quote m.0 d ds m.1)

-- ---- behind a letter

word_before_quote : (c : ℕ) (cs : List ℕ) (n : ℕ) → is_letter c ≡ true → literal_len (c ∷ cs) ≡ Some n → word_len (c ∷ cs) ≡ 1
unfolding word_len
word_before_quote c cs n l h = elim (literal_first c cs n h) [
  | inl t ↦ rw (l, t.3) (rw (quote_no_word_byte t.1 t.4) refl)
  | inr q ↦ cc (letter_no_quote c l)
]

zero_or : (bs : List ℕ) (o : Option ℕ) → literal_len bs ≡ o → ((n : ℕ) → literal_len bs ≡ Some n → word_len bs ≡ 1) → word_len bs ≤ word_or_literal bs
zero_or bs None e w = rw e (omega arith)
zero_or bs (Some zero) e w = rw e (omega arith)
zero_or bs (Some (suc m)) e w = let k = w (suc m) e in rw (e, not_zero m) (omega arith)

word_below : (c : ℕ) (cs : List ℕ) → is_letter c ≡ true → word_len (c ∷ cs) ≤ word_or_literal (c ∷ cs)
word_below c cs l = zero_or (c ∷ cs) (literal_len (c ∷ cs)) refl (λ n h. word_before_quote c cs n l h)

literal_below : (bs : List ℕ) (n : ℕ) → literal_len bs ≡ Some n → n ≤ word_or_literal bs
literal_below bs zero h = omega arith
literal_below bs (suc n) h = rw (h, not_zero n) (omega arith)

-- ---- no spelling is longer

bound_word : (mode : Mode) (s r : List ℕ) → is_word s ≡ true → length s ≤ spelling_len mode (s ++ r)
unfolding spelling_len
bound_word mode [] r h = omega arith
bound_word mode (c ∷ cs) r h =
    let l = word_first c cs h in
    let b : length (c ∷ cs) ≤ word_len (c ∷ (cs ++ r)) = word-bound (c ∷ cs) r h in
    let w = word_below c (cs ++ r) l in
    let k : length (c ∷ cs) ≤ word_or_literal (c ∷ (cs ++ r)) = omega arith in
    rw l k

bound_number : (mode : Mode) (s r : List ℕ) → is_number s ≡ true → length s ≤ spelling_len mode (s ++ r)
unfolding spelling_len
bound_number mode [] r h = omega arith
bound_number mode (c ∷ cs) r h =
    let b = number_begins-append c cs r h in
    rw (number_no_letter c (cs ++ r) b, b) (number-bound (c ∷ cs) r h)

-- a literal that doesn't begin with a letter begins with a quote
unlettered : (c : ℕ) (cs : List ℕ) (n : ℕ) → is_letter c ≡ false → literal_len (c ∷ cs) ≡ Some n → is_quote c ≡ true
unfolding is_letter
unlettered c cs n l h = elim (literal_first c cs n h) [
  | inl t ↦ cc (l_letter c t.0)
  | inr q ↦ q
]
  where
    l_letter : (c : ℕ) → c ≡ 76 → is_letter c ≡ true
    l_letter c e = rw e refl

bound_literal : (mode : Mode) (s r : List ℕ) → is_literal s ≡ true → length s ≤ spelling_len mode (s ++ r)
unfolding spelling_len
bound_literal mode [] r h = omega arith
bound_literal mode (c ∷ cs) r h =
    let t = literal-there (c ∷ cs) r h in
    elim (cases (is_letter c)) as (λ _. length (c ∷ cs) ≤ spelling_len mode (c ∷ (cs ++ r))) [
      | inl l ↦ rw l (literal_below (c ∷ (cs ++ r)) (length (c ∷ cs)) t)
      | inr l ↦
          let q = unlettered c (cs ++ r) (length (c ∷ cs)) l t in
          rw (l, quote_no_number c (cs ++ r) q, q, t) (omega arith)
    ]

behind : (c : ℕ) (cs r : List ℕ) (mode : Mode) → is_letter c ≡ false → is_quote c ≡ false → (begins_number (c ∷ (cs ++ r)) ≡ true → cs ≡ []) → length (c ∷ cs) ≤ punctuator_len mode (c ∷ (cs ++ r)) → length (c ∷ cs) ≤ spelling_len mode (c ∷ (cs ++ r))
unfolding spelling_len
behind c cs r mode l q n b = elim (cases (begins_number (c ∷ (cs ++ r)))) as (λ _. length (c ∷ cs) ≤ spelling_len mode (c ∷ (cs ++ r))) [
  | inl e ↦ let k = number-some c (cs ++ r) e in let z : length cs ≡ 0 = ap length (n e) in rw (l, e) (omega arith)
  | inr e ↦ rw (l, e, q) b
]

bound_punctuator : (mode : Mode) (s r : List ℕ) → is_some (punctuator_of mode s) ≡ true → length s ≤ spelling_len mode (s ++ r)
bound_punctuator mode s r h =
    let f = punctuator_first mode s h in
    let b = punctuator-bound mode s r h in
    rw (f.is) (by f.first f.rest f.no_letter f.no_quote (f.no_digit_behind r 0) (rw (f.is) at b))
  where
    by : (c : ℕ) (cs : List ℕ) → is_letter c ≡ false → is_quote c ≡ false → (begins_number (c ∷ (cs ++ r)) ≡ true → cs ≡ []) → length (c ∷ cs) ≤ punctuator_len mode (c ∷ (cs ++ r)) → length (c ∷ cs) ≤ spelling_len mode (c ∷ (cs ++ r))
    by c cs l q n b = behind c cs r mode l q n b

-- ---- the longest is one

-- a text in front that is a spelling
pub record Fronts (mode : Mode) (bs : List ℕ) (n : ℕ) : Type 0 where
  pub spelling : is_spelling mode (take n bs) ≡ true
  pub within : n ≤ length bs

word_is : (mode : Mode) (s : List ℕ) → is_word s ≡ true → is_spelling mode s ≡ true
unfolding is_spelling
word_is mode s h = rw h refl

number_is : (mode : Mode) (s : List ℕ) → is_number s ≡ true → is_spelling mode s ≡ true
unfolding is_spelling
number_is mode s h = elim (cases (is_word s)) as (λ _. is_spelling mode s ≡ true) [ inl e ↦ rw e refl | inr e ↦ rw (e, h) refl ]

literal_is : (mode : Mode) (s : List ℕ) → is_literal s ≡ true → is_spelling mode s ≡ true
unfolding is_spelling
literal_is mode s h = by (is_word s) (is_number s)
  where
    by : (a b : Bool) → (a || (b || (is_literal s || is_some (punctuator_of mode s)))) ≡ true
    by true b = refl
    by false true = refl
    by false false = rw h refl

punctuator_is : (mode : Mode) (s : List ℕ) → is_some (punctuator_of mode s) ≡ true → is_spelling mode s ≡ true
unfolding is_spelling
punctuator_is mode s h = by (is_word s) (is_number s) (is_literal s)
  where
    by : (a b c : Bool) → (a || (b || (c || is_some (punctuator_of mode s)))) ≡ true
    by true b c = refl
    by false true c = refl
    by false false true = refl
    by false false false = h

fronts_literal : (mode : Mode) (bs : List ℕ) (n : ℕ) → literal_len bs ≡ Some n → Fronts mode bs n
fronts_literal mode bs n h = let t = literal-taken bs n h in record { spelling = literal_is mode (take n bs) t.0; within = t.1 }

fronts_letter : (mode : Mode) (c : ℕ) (cs : List ℕ) (o : Option ℕ) → is_letter c ≡ true → literal_len (c ∷ cs) ≡ o → Fronts mode (c ∷ cs) (word_or_literal (c ∷ cs))
fronts_letter mode c cs None l h = rw h (record { spelling = word_is mode (take (word_len (c ∷ cs)) (c ∷ cs)) (word-taken c cs l); within = word-le (c ∷ cs) })
fronts_letter mode c cs (Some zero) l h = rw h (record { spelling = word_is mode (take (word_len (c ∷ cs)) (c ∷ cs)) (word-taken c cs l); within = word-le (c ∷ cs) })
fronts_letter mode c cs (Some (suc n)) l h = rw (h, not_zero n) (fronts_literal mode (c ∷ cs) (suc n) h)

fronts_quote : (mode : Mode) (bs : List ℕ) (o : Option ℕ) → literal_len bs ≡ o → 0 < unwrap_or o 0 → Fronts mode bs (unwrap_or o 0)
fronts_quote mode bs None h n = absurd (omega arith)
fronts_quote mode bs (Some n) h k = fronts_literal mode bs n h

pub spelling-taken : (mode : Mode) (bs : List ℕ) → 0 < spelling_len mode bs → Fronts mode bs (spelling_len mode bs)
unfolding spelling_len
spelling-taken mode [] h = absurd (omega arith)
spelling-taken mode (c ∷ cs) h = by (is_letter c) (begins_number (c ∷ cs)) (is_quote c) refl refl refl h
  where
    by : (l n q : Bool) → is_letter c ≡ l → begins_number (c ∷ cs) ≡ n → is_quote c ≡ q →
        0 < cond l (word_or_literal (c ∷ cs)) (cond n (number_len (c ∷ cs)) (cond q (unwrap_or (literal_len (c ∷ cs)) 0) (punctuator_len mode (c ∷ cs)))) →
        Fronts mode (c ∷ cs) (cond l (word_or_literal (c ∷ cs)) (cond n (number_len (c ∷ cs)) (cond q (unwrap_or (literal_len (c ∷ cs)) 0) (punctuator_len mode (c ∷ cs)))))
    by true n q e f g k = fronts_letter mode c cs (literal_len (c ∷ cs)) e refl
    by false true q e f g k = record { spelling = number_is mode (take (number_len (c ∷ cs)) (c ∷ cs)) (number-taken c cs f); within = number-le (c ∷ cs) }
    by false false true e f g k = fronts_quote mode (c ∷ cs) (literal_len (c ∷ cs)) refl k
    by false false false e f g k =
        let p = punctuator-taken mode (c ∷ cs) k in
        record { spelling = punctuator_is mode (take (punctuator_len mode (c ∷ cs)) (c ∷ cs)) p.found; within = p.within }

pub spelling-bound : (mode : Mode) (s r : List ℕ) → is_spelling mode s ≡ true → length s ≤ spelling_len mode (s ++ r)
unfolding is_spelling
spelling-bound mode s r h = elim (either (is_word s) (is_number s || (is_literal s || is_some (punctuator_of mode s))) h) as (λ _. length s ≤ spelling_len mode (s ++ r)) [
  | inl w ↦ bound_word mode s r w
  | inr t ↦ elim (either (is_number s) (is_literal s || is_some (punctuator_of mode s)) t) as (λ _. length s ≤ spelling_len mode (s ++ r)) [
    | inl n ↦ bound_number mode s r n
    | inr u ↦ elim (either (is_literal s) (is_some (punctuator_of mode s)) u) as (λ _. length s ≤ spelling_len mode (s ++ r)) [
      | inl l ↦ bound_literal mode s r l
      | inr p ↦ bound_punctuator mode s r p
    ]
  ]
]

-- ---- the computed length and the longest spelling

pub empty_no_spelling : (mode : Mode) → is_spelling mode [] ≡ true → ⊥
unfolding is_spelling is_word is_number is_literal
empty_no_spelling mode t = let f = punctuator_first mode [] t in let e = f.is in cc

-- the longest spelling is as long as is computed
pub longest_len : (mode : Mode) (s rest : List ℕ) → IsLongest mode s rest → spelling_len mode (s ++ rest) ≡ length s
longest_len mode s rest i =
    let b = spelling-bound mode s rest i.spelling in
    let n = spelling_len mode (s ++ rest) in
    let nonempty : 0 < n = positive mode s (omega arith) i.spelling in
    let t = spelling-taken mode (s ++ rest) nonempty in
    let w = t.within in
    let more = take (n - length s) rest in
    let others = drop (n - length s) rest in
    let split : rest ≡ more ++ others = sym (take-append-drop (n - length s) rest) in
    let fits : n - length s ≤ length rest = omega (arith, length-append s rest) in
    let m : length more ≡ n - length s = length-take-le (n - length s) rest fits in
    let size : length (s ++ more) ≡ n = omega (arith, length-append s more) in
    let whole : s ++ rest ≡ (s ++ more) ++ others = ap (λ l. s ++ l) split ∙ sym (append_assoc s more others) in
    let front : take n (s ++ rest) ≡ s ++ more = ap (take n) whole ∙ take_at (s ++ more) others n size in
    let none : more ≡ [] = i.longest more others split (ap (is_spelling mode) (sym front) ∙ t.spelling) in
    let zero : length more ≡ 0 = ap length none in
    omega arith
  where
    positive : (mode : Mode) (s : List ℕ) → length s ≤ spelling_len mode (s ++ rest) → is_spelling mode s ≡ true → 0 < spelling_len mode (s ++ rest)
    positive mode [] b h = absurd (empty_no_spelling mode h)
    positive mode (c ∷ cs) b h = omega arith

-- as many bytes as are computed are the longest spelling
pub len_longest : (mode : Mode) (bs : List ℕ) → 0 < spelling_len mode bs → IsLongest mode (take (spelling_len mode bs) bs) (drop (spelling_len mode bs) bs)
len_longest mode bs h =
    let n = spelling_len mode bs in
    let t = spelling-taken mode bs h in
    record {
      spelling = t.spelling;
      longest = λ more others e k.
          let s = take n bs in
          let whole : (s ++ more) ++ others ≡ bs = append_assoc s more others ∙ ap (λ l. s ++ l) (sym e) ∙ take-append-drop n bs in
          let b : length (s ++ more) ≤ n = rw (ap (spelling_len mode) whole) at (spelling-bound mode (s ++ more) others k) in
          let m : length s ≡ n = length-take-le n bs t.within in
          nil_from_length more (omega (arith, length-append s more));
    }
