-- Tokens whose numbers rise: which stands where.
use Rattle.std.proofs.Common.{◌≡◌, ◌≢◌, ℕ, zero, suc, ◌+◌, ◌≤◌, ◌<◌, List, [], ◌∷◌, length, get_or, refl, ap, sym, ◌∙◌, arith, inl, inr}
use Rattle.c_tree.specs.declared.token.Token.{Token}
use Rattle.c_lexer.specs.declared.fault.Spot.{Spot}
use Rattle.c_tree.specs.TokenPlaces.{Rises}
use Rattle.c_lexer.specs.Tokens.{number_at, position_of}
use Rattle.std.proofs.lemmas.Bool.{cases_lt}
use Rattle.c_lexer.proofs.CReading.Tests.{unequal, same_true}

pub at_number : (ts : List Token) (k : ℕ) (d : Token) → k < length ts → number_at ts k ≡ (get_or ts k d).place.token
at_number [] k d h = absurd (omega arith)
at_number (t ∷ ts) zero d h = refl
at_number (t ∷ ts) (suc k) d h = at_number ts k d (omega arith)

rises_low : (low : ℕ) (ts : List Token) (high k : ℕ) → Rises low ts high → k < length ts → low ≤ number_at ts k
rises_low low [] high k r h = absurd (omega arith)
rises_low low (t ∷ ts) high zero r h = r.0
rises_low low (t ∷ ts) high (suc k) r h = let a = rises_low (t.place.token + 1) ts high k r.1 (omega arith) in let b = r.0 in omega arith

pub rises_between : (low : ℕ) (ts : List Token) (high i j : ℕ) → Rises low ts high → i < j → j < length ts → number_at ts i < number_at ts j
rises_between low [] high i j r l h = absurd (omega arith)
rises_between low (t ∷ ts) high i zero r l h = absurd (omega arith)
rises_between low (t ∷ ts) high zero (suc j) r l h = let a = rises_low (t.place.token + 1) ts high j r.1 (omega arith) in omega arith
rises_between low (t ∷ ts) high (suc i) (suc j) r l h = rises_between (t.place.token + 1) ts high i j r.1 (omega arith) (omega arith)

-- up to a smaller one all are smaller
pub smaller_up_to : (ts : List Token) (high middle number : ℕ) → Rises 0 ts high → middle < length ts → number_at ts middle < number → (k : ℕ) → k < middle + 1 → number_at ts k < number
smaller_up_to ts high middle number r m s k h = elim (cases_lt k middle) as (λ _. number_at ts k < number) [
  | inl l ↦ let b = rises_between 0 ts high k middle r l m in omega arith
  | inr l ↦ let e : k ≡ middle = omega arith in rw e s
]

-- from one that isn't smaller on none is
pub larger_from : (ts : List Token) (high middle number : ℕ) → Rises 0 ts high → number ≤ number_at ts middle → (k : ℕ) → middle ≤ k → k < length ts → number ≤ number_at ts k
larger_from ts high middle number r s k m h = elim (cases_lt middle k) as (λ _. number ≤ number_at ts k) [
  | inl l ↦ let b = rises_between 0 ts high middle k r l h in omega arith
  | inr l ↦ let e : k ≡ middle = omega arith in rw e s
]

pub position_found : (ts : List Token) (end : Spot) (number i : ℕ) (d : Token) → ((k : ℕ) → k < i → number_at ts k < number) → i < length ts → (get_or ts i d).place.token ≡ number →
    position_of ts end number ≡ ((get_or ts i d).source, (get_or ts i d).line, (get_or ts i d).col)
position_found [] end number i d b h e = absurd (omega arith)
position_found (t ∷ ts) end number zero d b h e = rw (same_true t.place.token number e) refl
position_found (t ∷ ts) end number (suc i) d b h e =
    let first : t.place.token < number = b 0 (omega arith) in
    rw (unequal t.place.token number (λ s. absurd (omega arith))) (position_found ts end number i d (λ k l. b (suc k) (omega arith)) (omega arith) e)

pub position_none : (ts : List Token) (end : Spot) (number : ℕ) → ((k : ℕ) → k < length ts → number_at ts k ≢ number) → position_of ts end number ≡ (end.source, end.line, end.col)
position_none [] end number n = refl
position_none (t ∷ ts) end number n = rw (unequal t.place.token number (n 0 (omega arith))) (position_none ts end number (λ k l. n (suc k) (omega arith)))

-- no token has the number, where those in front are smaller, and the next is larger
pub position_between : (ts : List Token) (end : Spot) (high number i : ℕ) (d : Token) → Rises 0 ts high → ((k : ℕ) → k < i → number_at ts k < number) → ((k : ℕ) → i ≤ k → k < length ts → number ≤ number_at ts k) → i < length ts → ((get_or ts i d).place.token ≡ number → ⊥) →
    position_of ts end number ≡ (end.source, end.line, end.col)
position_between ts end high number i d r below above h differ =
    let at_i = at_number ts i d h in
    let least = above i (omega arith) h in
    let other : number_at ts i ≢ number = λ e. differ (sym at_i ∙ e) in
    let larger : number < number_at ts i = grind arith in
    position_none ts end number (λ k l e. elim (cases_lt k i) [
      | inl s ↦ let b = below k s in absurd (omega arith)
      | inr s ↦ elim (cases_lt i k) [
        | inl t ↦ let b = rises_between 0 ts high i k r t l in absurd (omega arith)
        | inr t ↦ let q : k ≡ i = omega arith in other (ap (number_at ts) (sym q) ∙ e)
      ]
    ])

-- no token has the number, where all are smaller
pub position_past : (ts : List Token) (end : Spot) (number i : ℕ) → ((k : ℕ) → k < i → number_at ts k < number) → length ts ≤ i → position_of ts end number ≡ (end.source, end.line, end.col)
position_past ts end number i below h = position_none ts end number (λ k l e. let b = below k (omega arith) in absurd (omega arith))
