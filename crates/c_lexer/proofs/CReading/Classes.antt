-- Of each class of spellings: the longest in front is as long as is computed.
use Rattle.std.proofs.Common.{◌≡◌, ℕ, suc, ◌+◌, ◌≤◌, ◌<◌, Bool, true, false, cond, not, ◌&&◌, eqb, List, [], ◌∷◌, ◌++◌, length, take, Option, None, Some, is_some, unwrap_or, inl, inr, refl, ap, sym, ◌∙◌, subst, arith, length-append}
use Rattle.std.specs.List.{list_all, prefix_len}
use Rattle.std.proofs.lemmas.List.{take_at}
use Rattle.std.proofs.lemmas.List.Sums.{prefix_len-le-length}
use Rattle.c_lexer.specs.declared.c_reading.mode.Mode.{Mode}
use Rattle.c_lexer.specs.declared.c_reading.mode.Mode.TheVariants.{C, Metal}
use Rattle.c_lexer.specs.CReading.Bytes.{is_digit, is_letter, is_word_byte, is_quote}
use Rattle.c_lexer.specs.CReading.Runs.{goes_through, run_len}
use Rattle.c_tree.specs.declared.punctuator.Punctuator.{Punctuator}
use Rattle.c_lexer.specs.CReading.Words.{find_text}
use Rattle.c_lexer.specs.CReading.Punctuators.{punctuator_of, punctuators, singles, pairs, triples}
use Rattle.c_lexer.specs.CReading.Spellings.{is_word, is_number, is_literal, goes_on, begins_number, literal_len}
use Rattle.c_lexer.specs.Ways.Cutting.{word_len, number_len, punctuator_len, single_len, pair_len, triple_len}
use Rattle.c_lexer.proofs.CReading.Tests.{cases, both, either, not_true, same, same_true}
use Rattle.c_lexer.proofs.CReading.Runs.{prefix_passes, prefix_of_passes, run_goes, run_of_goes, run_len-le}
use Rattle.c_lexer.proofs.CReading.Literals.{literal-append, literal-front}
use Rattle.c_lexer.proofs.CReading.Tables.{found_passes}
use Rattle.c_lexer.proofs.CReading.ByteFacts.{digit_begins, digit_word_byte, number_first}

plus_one : (n : ℕ) → n + 1 ≡ suc n
plus_one n = omega arith

-- ---- words

pub word-bound : (s r : List ℕ) → is_word s ≡ true → length s ≤ word_len (s ++ r)
unfolding is_word word_len
word-bound [] r h = cc
word-bound (c ∷ cs) r h =
    let q = both (is_letter c) (list_all is_word_byte cs) h in
    rw (q.0) (omega (arith, prefix_of_passes is_word_byte cs r q.1))

pub word-taken : (c : ℕ) (cs : List ℕ) → is_letter c ≡ true → is_word (take (word_len (c ∷ cs)) (c ∷ cs)) ≡ true
unfolding is_word word_len
word-taken c cs h = rw (h, plus_one (prefix_len is_word_byte cs), h) (prefix_passes is_word_byte cs)

pub word-le : (bs : List ℕ) → word_len bs ≤ length bs
unfolding word_len
word-le [] = omega arith
word-le (c ∷ cs) = elim (cases (is_letter c)) as (λ _. word_len (c ∷ cs) ≤ length (c ∷ cs)) [
  | inl e ↦ rw e (omega (arith, prefix_len-le-length is_word_byte cs))
  | inr e ↦ rw e (omega arith)
]

pub word_first : (c : ℕ) (cs : List ℕ) → is_word (c ∷ cs) ≡ true → is_letter c ≡ true
unfolding is_word
word_first c cs h = (both (is_letter c) (list_all is_word_byte cs) h).0

-- ---- numbers

begins_still : (c : ℕ) (cs r : List ℕ) → begins_number (c ∷ cs) ≡ true → begins_number (c ∷ (cs ++ r)) ≡ true
begins_still c [] r h = digit_begins c r h
begins_still c (d ∷ ds) r h = h

pub number-bound : (s r : List ℕ) → is_number s ≡ true → length s ≤ number_len (s ++ r)
unfolding is_number number_len
number-bound [] r h = cc
number-bound (c ∷ cs) r h =
    let q = both (begins_number (c ∷ cs)) (goes_through goes_on c cs) h in
    rw (begins_still c cs r q.0) (omega (arith, run_of_goes goes_on c cs r q.1))

digit_goes_on : (p d : ℕ) → is_digit d ≡ true → goes_on p d ≡ true
unfolding goes_on
digit_goes_on p d h = rw (digit_word_byte d h) refl

begins_taken : (c : ℕ) (cs : List ℕ) → begins_number (c ∷ cs) ≡ true → begins_number (c ∷ take (run_len goes_on c cs) cs) ≡ true
begins_taken c cs h = elim (number_first c cs h) as (λ _. begins_number (c ∷ take (run_len goes_on c cs) cs) ≡ true) [
  | inl e ↦ digit_begins c (take (run_len goes_on c cs) cs) e
  | inr t ↦ by t.1 t.2 t.3 t.4
]
  where
    by : (d : ℕ) (ds : List ℕ) → cs ≡ d ∷ ds → is_digit d ≡ true → begins_number (c ∷ take (run_len goes_on c cs) cs) ≡ true
    by d ds e k =
        let F : List ℕ → Type 0 = λ l. begins_number (c ∷ l) ≡ true → begins_number (c ∷ take (run_len goes_on c l) l) ≡ true in
        let G : F (d ∷ ds) = λ b. rw (digit_goes_on c d k) b in
        subst F (sym e) G h

pub number-taken : (c : ℕ) (cs : List ℕ) → begins_number (c ∷ cs) ≡ true → is_number (take (number_len (c ∷ cs)) (c ∷ cs)) ≡ true
unfolding is_number number_len
number-taken c cs h = rw (h, plus_one (run_len goes_on c cs), begins_taken c cs h) (run_goes goes_on c cs)

pub number-le : (bs : List ℕ) → number_len bs ≤ length bs
unfolding number_len
number-le [] = omega arith
number-le (c ∷ cs) = elim (cases (begins_number (c ∷ cs))) as (λ _. number_len (c ∷ cs) ≤ length (c ∷ cs)) [
  | inl e ↦ rw e (omega (arith, run_len-le goes_on c cs))
  | inr e ↦ rw e (omega arith)
]

pub number-some : (c : ℕ) (cs : List ℕ) → begins_number (c ∷ cs) ≡ true → 1 ≤ number_len (c ∷ cs)
unfolding number_len
number-some c cs h = rw h (omega arith)

pub number_begins : (c : ℕ) (cs : List ℕ) → is_number (c ∷ cs) ≡ true → begins_number (c ∷ cs) ≡ true
unfolding is_number
number_begins c cs h = (both (begins_number (c ∷ cs)) (goes_through goes_on c cs) h).0

pub number_begins-append : (c : ℕ) (cs r : List ℕ) → is_number (c ∷ cs) ≡ true → begins_number (c ∷ (cs ++ r)) ≡ true
number_begins-append c cs r h = begins_still c cs r (number_begins c cs h)

-- ---- literals

there : (o : Option ℕ) (n : ℕ) → unwrap_or o 0 ≡ suc n → o ≡ Some (suc n)
there None n h = absurd (omega arith)
there (Some m) n h = ap Some h

pub literal-there : (s r : List ℕ) → is_literal s ≡ true → literal_len (s ++ r) ≡ Some (length s)
unfolding is_literal
literal-there [] r h = cc
literal-there (c ∷ cs) r h = literal-append (c ∷ cs) r (length (c ∷ cs)) (there (literal_len (c ∷ cs)) (length cs) (same (unwrap_or (literal_len (c ∷ cs)) 0) (length (c ∷ cs)) h))

is_literal_front : (fs : List ℕ) (n : ℕ) → length fs ≡ n → literal_len fs ≡ Some n → is_literal fs ≡ true
unfolding is_literal literal_len
is_literal_front [] n s k = cc
is_literal_front (c ∷ cs) n s k = rw k (same_true n (length (c ∷ cs)) (sym s))

pub literal-taken : (bs : List ℕ) (n : ℕ) → literal_len bs ≡ Some n → (is_literal (take n bs) ≡ true) × (n ≤ length bs)
literal-taken bs n h =
    let f = literal-front bs n h in
    let t : take n bs ≡ f.front = ap (take n) f.joined ∙ take_at f.front f.back n f.size in
    (rw t (is_literal_front f.front n f.size f.says), rw (f.joined) (omega (arith, length-append f.front f.back, f.size)))

-- ---- punctuators

-- of one to three bytes, of which the first begins no word, number or literal, and the second no word or number
plain : List ℕ → Bool
plain [] = false
plain (a ∷ []) = not (is_letter a) && (not (is_digit a) && not (is_quote a))
plain (a ∷ b ∷ []) = not (is_letter a) && (not (is_digit a) && (not (is_quote a) && not (is_digit b)))
plain (a ∷ b ∷ c ∷ []) = not (is_letter a) && (not (is_digit a) && (not (is_quote a) && not (is_digit b)))
plain (a ∷ b ∷ c ∷ d ∷ _) = false

all_plain : (mode : Mode) → list_all (λ n. list_all (λ e. plain e.0) (punctuators mode n)) (1 ∷ 2 ∷ 3 ∷ []) ≡ true
unfolding plain punctuators singles pairs triples is_letter is_digit is_quote
all_plain C = refl
all_plain Metal = refl

found_some : {A : Type 0} (o : Option A) → is_some o ≡ true → (x : A) × (o ≡ Some x)
found_some None h = cc
found_some (Some x) h = (x, refl)

-- what all punctuators pass, a text that is one passes
pub passes_of_length : (mode : Mode) (p : List ℕ → Bool) (s : List ℕ) (n : ℕ) (k : Punctuator) → list_all (λ m. list_all (λ e. p e.0) (punctuators mode m)) (1 ∷ 2 ∷ 3 ∷ []) ≡ true → find_text s (punctuators mode n) ≡ Some k → p s ≡ true
unfolding punctuators
passes_of_length mode p s n k all h =
    let a = both _ (list_all (λ m. list_all (λ e. p e.0) (punctuators mode m)) (2 ∷ 3 ∷ [])) all in
    let b = both _ (list_all (λ m. list_all (λ e. p e.0) (punctuators mode m)) (3 ∷ [])) a.1 in
    let c = both (list_all (λ e. p e.0) (punctuators mode 3)) true b.1 in
    by (eqb n 1) (eqb n 2) (eqb n 3) a.0 b.0 c.0 h
  where
    by : (x y z : Bool) → list_all (λ e. p e.0) (punctuators mode 1) ≡ true → list_all (λ e. p e.0) (punctuators mode 2) ≡ true → list_all (λ e. p e.0) (punctuators mode 3) ≡ true →
        find_text s (cond x (punctuators mode 1) (cond y (punctuators mode 2) (cond z (punctuators mode 3) []))) ≡ Some k → p s ≡ true
    by true y z one two three h = found_passes p s (punctuators mode 1) k one h
    by false true z one two three h = found_passes p s (punctuators mode 2) k two h
    by false false true one two three h = found_passes p s (punctuators mode 3) k three h
    by false false false one two three h = cc

is_plain : (mode : Mode) (s : List ℕ) → is_some (punctuator_of mode s) ≡ true → plain s ≡ true
unfolding punctuator_of
is_plain mode s h = let k = found_some (find_text s (punctuators mode (length s))) h in passes_of_length mode plain s (length s) k.0 (all_plain mode) k.1

-- what a punctuator's first bytes are not
pub record PlainFirst (s : List ℕ) : Type 0 where
  pub first : ℕ
  pub rest : List ℕ
  pub is : s ≡ first ∷ rest
  pub no_letter : is_letter first ≡ false
  pub no_digit : is_digit first ≡ false
  pub no_quote : is_quote first ≡ false
  pub short : length rest ≤ 2
  pub no_digit_behind : (r : List ℕ) (d : ℕ) → begins_number (first ∷ (rest ++ r)) ≡ true → rest ≡ []

plain_one : (a : ℕ) → plain (a ∷ []) ≡ true → PlainFirst (a ∷ [])
unfolding plain
plain_one a h =
    let p = both (not (is_letter a)) (not (is_digit a) && not (is_quote a)) h in
    let q = both (not (is_digit a)) (not (is_quote a)) p.1 in
    record {
      first = a;
      rest = [];
      is = refl;
      no_letter = not_true (is_letter a) p.0;
      no_digit = not_true (is_digit a) q.0;
      no_quote = not_true (is_quote a) q.1;
      short = omega arith;
      no_digit_behind = λ r d b. refl;
    }

plain_more : (a b : ℕ) (cs : List ℕ) → length cs ≤ 1 → (not (is_letter a) && (not (is_digit a) && (not (is_quote a) && not (is_digit b)))) ≡ true → PlainFirst (a ∷ b ∷ cs)
plain_more a b cs n h =
    let p = both (not (is_letter a)) (not (is_digit a) && (not (is_quote a) && not (is_digit b))) h in
    let q = both (not (is_digit a)) (not (is_quote a) && not (is_digit b)) p.1 in
    let t = both (not (is_quote a)) (not (is_digit b)) q.1 in
    let no_a = not_true (is_digit a) q.0 in
    let no_b = not_true (is_digit b) t.1 in
    record {
      first = a;
      rest = b ∷ cs;
      is = refl;
      no_letter = not_true (is_letter a) p.0;
      no_digit = no_a;
      no_quote = not_true (is_quote a) t.0;
      short = omega arith;
      no_digit_behind = λ r d k. elim (either (is_digit a) (eqb a 46 && is_digit b) k) as (λ _. b ∷ cs ≡ []) [
        | inl e ↦ cc
        | inr e ↦ let z = (both (eqb a 46) (is_digit b) e).1 in cc
      ];
    }

pub punctuator_first : (mode : Mode) (s : List ℕ) → is_some (punctuator_of mode s) ≡ true → PlainFirst s
unfolding plain
punctuator_first mode s h = by s (is_plain mode s h)
  where
    by : (t : List ℕ) → plain t ≡ true → PlainFirst t
    by [] k = cc
    by (a ∷ []) k = plain_one a k
    by (a ∷ b ∷ []) k = plain_more a b [] (omega arith) k
    by (a ∷ b ∷ c ∷ []) k = plain_more a b (c ∷ []) (omega arith) k
    by (a ∷ b ∷ c ∷ d ∷ _) k = cc

or_more : (b : Bool) (k m n : ℕ) → n ≤ k → n ≤ m → n ≤ cond b k m
or_more true k m n h i = h
or_more false k m n h i = i

one_le : (mode : Mode) (a : ℕ) → is_some (punctuator_of mode (a ∷ [])) ≡ true → 1 ≤ single_len mode a
one_le mode a h = rw h (omega arith)

pair_ge : (mode : Mode) (a b : ℕ) → single_len mode a ≤ pair_len mode a b
pair_ge mode a b = or_more (is_some (punctuator_of mode (a ∷ b ∷ []))) 2 (single_len mode a) (single_len mode a) (single_le mode a) (omega arith)
  where
    by : (b : Bool) → cond b 1 0 ≤ 2
    by true = omega arith
    by false = omega arith

    single_le : (mode : Mode) (a : ℕ) → single_len mode a ≤ 2
    single_le mode a = by (is_some (punctuator_of mode (a ∷ [])))

pair_le : (mode : Mode) (a b : ℕ) → pair_len mode a b ≤ 2
pair_le mode a b = by (is_some (punctuator_of mode (a ∷ b ∷ []))) (is_some (punctuator_of mode (a ∷ [])))
  where
    by : (b c : Bool) → cond b 2 (cond c 1 0) ≤ 2
    by true c = omega arith
    by false true = omega arith
    by false false = omega arith

triple_ge : (mode : Mode) (a b c : ℕ) → pair_len mode a b ≤ triple_len mode a b c
triple_ge mode a b c =
    let p = pair_le mode a b in
    or_more (is_some (punctuator_of mode (a ∷ b ∷ c ∷ []))) 3 (pair_len mode a b) (pair_len mode a b) (omega arith) (omega arith)

pub punctuator-bound : (mode : Mode) (s r : List ℕ) → is_some (punctuator_of mode s) ≡ true → length s ≤ punctuator_len mode (s ++ r)
unfolding punctuator_len
punctuator-bound mode s r h = let f = punctuator_first mode s h in by s r (rw (f.is) (let q = f.short in omega arith)) h
  where
    pair : (a b : ℕ) (r : List ℕ) → is_some (punctuator_of mode (a ∷ b ∷ [])) ≡ true → 2 ≤ punctuator_len mode (a ∷ b ∷ r)
    pair a b [] h = rw h (omega arith)
    pair a b (c ∷ r) h = let t = triple_ge mode a b c in let p : 2 ≤ pair_len mode a b = rw h (omega arith) in omega arith

    one : (a : ℕ) (r : List ℕ) → is_some (punctuator_of mode (a ∷ [])) ≡ true → 1 ≤ punctuator_len mode (a ∷ r)
    one a [] h = one_le mode a h
    one a (b ∷ []) h = let p = one_le mode a h in let t = pair_ge mode a b in omega arith
    one a (b ∷ c ∷ r) h = let p = one_le mode a h in let t = pair_ge mode a b in let u = triple_ge mode a b c in omega arith

    by : (s r : List ℕ) → length s ≤ 3 → is_some (punctuator_of mode s) ≡ true → length s ≤ punctuator_len mode (s ++ r)
    by [] r n h = omega arith
    by (a ∷ []) r n h = one a r h
    by (a ∷ b ∷ []) r n h = pair a b r h
    by (a ∷ b ∷ c ∷ []) r n h = rw h (omega arith)
    by (a ∷ b ∷ c ∷ d ∷ s) r n h = absurd (omega arith)

-- the length of a text in front that is a punctuator
pub record Punctuates (mode : Mode) (bs : List ℕ) (n : ℕ) : Type 0 where
  pub found : is_some (punctuator_of mode (take n bs)) ≡ true
  pub within : n ≤ length bs

pub punctuator-taken : (mode : Mode) (bs : List ℕ) → 0 < punctuator_len mode bs → Punctuates mode bs (punctuator_len mode bs)
unfolding punctuator_len
punctuator-taken mode [] h = absurd (omega arith)
punctuator-taken mode (a ∷ []) h = single (is_some (punctuator_of mode (a ∷ []))) refl h
  where
    single : (b : Bool) → is_some (punctuator_of mode (a ∷ [])) ≡ b → 0 < cond b 1 0 → Punctuates mode (a ∷ []) (cond b 1 0)
    single true e k = record { found = e; within = omega arith }
    single false e k = absurd (omega arith)
punctuator-taken mode (a ∷ b ∷ []) h = pair (is_some (punctuator_of mode (a ∷ b ∷ []))) (is_some (punctuator_of mode (a ∷ []))) refl refl h
  where
    pair : (p q : Bool) → is_some (punctuator_of mode (a ∷ b ∷ [])) ≡ p → is_some (punctuator_of mode (a ∷ [])) ≡ q → 0 < cond p 2 (cond q 1 0) → Punctuates mode (a ∷ b ∷ []) (cond p 2 (cond q 1 0))
    pair true q e f k = record { found = e; within = omega arith }
    pair false true e f k = record { found = f; within = omega arith }
    pair false false e f k = absurd (omega arith)
punctuator-taken mode (a ∷ b ∷ c ∷ r) h = triple (is_some (punctuator_of mode (a ∷ b ∷ c ∷ []))) (is_some (punctuator_of mode (a ∷ b ∷ []))) (is_some (punctuator_of mode (a ∷ []))) refl refl refl h
  where
    triple : (o p q : Bool) → is_some (punctuator_of mode (a ∷ b ∷ c ∷ [])) ≡ o → is_some (punctuator_of mode (a ∷ b ∷ [])) ≡ p → is_some (punctuator_of mode (a ∷ [])) ≡ q → 0 < cond o 3 (cond p 2 (cond q 1 0)) → Punctuates mode (a ∷ b ∷ c ∷ r) (cond o 3 (cond p 2 (cond q 1 0)))
    triple true p q d e f k = record { found = d; within = omega arith }
    triple false true q d e f k = record { found = e; within = omega arith }
    triple false false true d e f k = record { found = f; within = omega arith }
    triple false false false d e f k = absurd (omega arith)
