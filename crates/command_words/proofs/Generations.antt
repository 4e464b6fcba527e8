-- Words that ask for a generation: their number is read back, there is one at most, and they stand for no request.
use Rattle.std.proofs.Common.{◌≡◌, ℕ, zero, suc, ◌≤◌, ◌<◌, ◌^◌, Bool, true, false, ◌&&◌, not, nat_le, List, [], ◌∷◌, length, get_or, map, codes, Option, None, Some, IfSome, Result, Ok, refl, sym, ap, ◌∙◌, subst, true≢false, arith}
use Rattle.std.specs.Fmt.{decimal}
use Rattle.std.specs.Str.{bytes_eq}
use Rattle.std.specs.Str.Parse.{AllDigits, digits_value, ParsesUnsigned}
use Rattle.std.proofs.lemmas.Bool.{leb-true, le-leb}
use Rattle.std.proofs.lemmas.Fmt.{decimal_digit, decimal_injective, decimal_nonempty, decimal-digits_value, digits_decimal, first_decimal, parse-decimal}
use Rattle.std.proofs.lemmas.Slice.Eq.{bytes_eq-Decides}
use Rattle.std.proofs.lemmas.Str.Parse.{IsNumeralModel, digit_at, numerals_by_value, parse_plain, tells_digits}
use Rattle.mx_io.specs.Bytes.{Bytes, Words}
use Rattle.command_words.specs.Generation.{begins_with_count, IsCount, IsGeneration}
use Rattle.command_words.specs.Ways.Reading.{reading, nothing_chosen}
use Rattle.command_words.specs.Words.{Request, IsRequest}
use Rattle.command_words.proofs.Complete.{both_true}
use Rattle.command_words.proofs.Sound.{refused}

numerals : IsNumeralModel (AllDigits 10) (digits_value 10)
numerals = numerals_by_value (AllDigits 10) tells_digits

both-true : {a b : Bool} → a ≡ true → b ≡ true → (a && b) ≡ true
both-true {a} {b} e h = ap (λ x. x && b) e ∙ h

-- ---- a number that was read

-- the first byte is past that of `0`
past-zero : (bs : Bytes) → begins_with_count bs ≡ true → (48 < get_or bs 0 0) × (get_or bs 0 0 ≤ 57) × (0 < length bs)
past-zero [] e = absurd (true≢false (sym e))
past-zero (b ∷ bs) e =
    let h = both_true (nat_le 49 b) (nat_le b 57) e in
    let low = leb-true 49 b h.0 in
    (omega (arith, low), leb-true b 57 h.1, omega arith)

not-zero : (n : ℕ) (bs : Bytes) → bs ≡ decimal n → 48 < get_or bs 0 0 → 1 ≤ n
not-zero zero bs e h = let f : get_or bs 0 0 ≡ 48 = ap (λ ds. get_or ds 0 0) (e ∙ decimal_digit 0 (omega arith)) in absurd (omega (arith, h, f))
not-zero (suc n) bs e h = omega arith

pub count_found : {E : Type 0} (bs : Bytes) (n : ℕ) (r : Result ℕ E) → begins_with_count bs ≡ true → ParsesUnsigned 32 10 bs r → r ≡ Ok n → n ≤ 9999 → IsCount bs n
count_found {E} bs n r begins parses is most =
    let first = past-zero bs begins in
    let plain = parse_plain numerals {E = E} 32 bs (Ok n) (subst (ParsesUnsigned 32 10 bs) is parses) (λ e. omega (arith, e, first.0)) in
    let small : digits_value 10 bs < 2 ^ 64 = omega (arith, plain.1, most) in
    let back : decimal (digits_value 10 bs) ≡ bs = decimal-digits_value numerals bs plain.0.0 first.2 (λ e. absurd (omega (arith, e, first.0))) small in
    let spelled : bs ≡ decimal n = sym back ∙ ap decimal (sym plain.1) in
    record { spelled = spelled; least = not-zero n bs spelled first.0; most = most }

-- ---- a number that is spelled

module _ (bs : Bytes) (n : ℕ) (is : IsCount bs n) where
  count-small : n < 2 ^ 64
  count-small = let h = is.most in omega (arith, h)

  begins : begins_with_count bs ≡ true
  begins = subst (λ ds. begins_with_count ds ≡ true) (sym is.spelled) (by (decimal n) (first_decimal n (let h = is.least in omega (arith, h)) count-small) (λ h. digit_at (decimal n) 0 (digits_decimal numerals n count-small) h) (decimal_nonempty n count-small))
    where
      by : (ds : Bytes) → 48 < get_or ds 0 0 → (0 < length ds → (48 ≤ get_or ds 0 0) × (get_or ds 0 0 ≤ 57)) → 0 < length ds → begins_with_count ds ≡ true
      by [] low high some = absurd (omega (arith, some))
      by (d ∷ ds) low high some = let h = high (omega arith) in both-true (le-leb 49 d (omega (arith, low))) (le-leb d 57 h.1)

  pub begins_so : begins_with_count bs ≡ false → ⊥
  begins_so e = true≢false (sym begins ∙ e)

  pub is_parsed : {E : Type 0} (r : Result ℕ E) → ParsesUnsigned 32 10 bs r → r ≡ Ok n
  is_parsed r parses = let h = is.most in parse-decimal 32 n bs r (omega (arith, h)) count-small is.spelled parses

pub same_ok : {E : Type 0} (r : Result ℕ E) (m n : ℕ) → r ≡ Ok m → r ≡ Ok n → m ≡ n
same_ok r m n e h = let same = sym e ∙ h in cc

-- ---- the words

pub two_words : {X : Type 0} (f : X → Bytes) (ws : List X) (a b : X) → 2 ≤ length ws → length ws < 3 → a ≡ get_or ws 0 a → b ≡ get_or ws 1 b → map f ws ≡ f a ∷ f b ∷ []
two_words f [] a b low high d e = absurd (omega (arith, low))
two_words f (x ∷ []) a b low high d e = absurd (omega (arith, low))
two_words f (x ∷ y ∷ []) a b low high d e = let x-is : a ≡ x = d in let y-is : b ≡ y = e in cc
two_words f (x ∷ y ∷ z ∷ ws) a b low high d e = absurd (omega (arith, high))

option-is : (option : Bytes) → not (bytes_eq option (codes "--generate")) ≡ false → option ≡ codes "--generate"
option-is option e = by (bytes_eq option (codes "--generate")) refl e
  where
    by : (b : Bool) → bytes_eq option (codes "--generate") ≡ b → not b ≡ false → option ≡ codes "--generate"
    by true is e = (bytes_eq-Decides option (codes "--generate")).0 is
    by false is e = absurd (true≢false e)

module _ (words : Words) (option word : Bytes) (whole : words ≡ option ∷ word ∷ []) where
  pub generation_of : (o : Option ℕ) → not (bytes_eq option (codes "--generate")) ≡ false → IfSome o (λ n. IsCount word n) → IfSome o (λ n. IsGeneration words n)
  generation_of None e h = tt
  generation_of (Some n) e h = record { word = word; whole = whole ∙ ap (λ o. o ∷ word ∷ []) (option-is option e); count = h }

-- there is one number at most
pub one_generation : (words : Words) (m n : ℕ) → IsGeneration words m → IsGeneration words n → m ≡ n
one_generation words m n g h =
    let same : codes "--generate" ∷ g.word ∷ [] ≡ codes "--generate" ∷ h.word ∷ [] = sym g.whole ∙ h.whole in
    let word : g.word ≡ h.word = ap (λ (ws : Words). get_or ws 1 []) same in
    decimal_injective m n (count-small g.word m g.count) (count-small h.word n h.count) (sym g.count.spelled ∙ word ∙ h.count.spelled)

-- and no request
pub no_request : (words : Words) (n : ℕ) → IsGeneration words n → (r : Request) → IsRequest words r → ⊥
no_request words n g = refused words (sym (ap (reading nothing_chosen) g.whole))

-- the same of what was read
pub only_generation : (words : Words) (o : Option ℕ) → IfSome o (λ n. IsGeneration words n) → IfSome o (λ n. (m : ℕ) → IsGeneration words m → m ≡ n)
only_generation words None g = tt
only_generation words (Some n) g = λ m h. one_generation words m n h g

pub apart_from_requests : (words : Words) (o : Option ℕ) → IfSome o (λ n. IsGeneration words n) → IfSome o (λ n. (r : Request) → IsRequest words r → ⊥)
apart_from_requests words None g = tt
apart_from_requests words (Some n) g = no_request words n g
