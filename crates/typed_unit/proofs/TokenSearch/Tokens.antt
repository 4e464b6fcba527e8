-- The tokens of a file from one of them on.
use Rattle.std.proofs.Common.{◌≡◌, ◌≤◌, ◌<◌, ◌+◌, ◌-◌, ℕ, zero, suc, List, [], ◌∷◌, length, drop, take, get_or, true, false, ltb, refl, ap, arith, ltb-true, ltb-false, le-leb}
use Rattle.std.proofs.lemmas.List.{take_all, length-drop}
use Rattle.std.proofs.Props.{props}
use borrow.Author.Tests.{lt-leb}
use Rattle.std.proofs.Math.Logic.{∥∥₁_elim}
use Rattle.std.specs.List.{AllWithin}
use Rattle.std.specs.List.Sorted.{IsNonDecreasingBy}
use Rattle.c_tree.specs.declared.token.Token.{Token}
use Rattle.c_tree.specs.TokenPlaces.{Rises, StandInFile}
use Rattle.typed_unit.specs.TokenSearch.Numbers.{from}

abbrev number_of : Token → ℕ
number_of t = t.place.token

rises_low : (low : ℕ) (ts : List Token) (high : ℕ) → Rises low ts high → (j : ℕ) (d : Token) → j < length ts → low ≤ number_of (get_or ts j d)
rises_low low [] high r j d h = absurd (omega arith)
rises_low low (t ∷ ts) high r zero d h = r.0
rises_low low (t ∷ ts) high r (suc j) d h = let a = rises_low (t.place.token + 1) ts high r.1 j d (omega arith) in let b = r.0 in omega arith

rising : (low : ℕ) (ts : List Token) (high : ℕ) → Rises low ts high → IsNonDecreasingBy number_of ts
rising low [] high r i j d le h = absurd (omega arith)
rising low (t ∷ ts) high r zero zero d le h = omega arith
rising low (t ∷ ts) high r zero (suc j) d le h = let a = rises_low (t.place.token + 1) ts high r.1 j d (omega arith) in omega arith
rising low (t ∷ ts) high r (suc i) zero d le h = absurd (omega arith)
rising low (t ∷ ts) high r (suc i) (suc j) d le h = rising (t.place.token + 1) ts high r.1 i j d (omega arith) (omega arith)

prop : (ts : List Token) → IsProp (IsNonDecreasingBy number_of ts)
prop ts = Prim.hlevel props

-- the numbers of tokens that stand in a file rise
pub in_file : (file : ℕ) (ts : List Token) → ∥ StandInFile file ts ∥₁ → IsNonDecreasingBy number_of ts
in_file file ts s = ∥∥₁_elim s (prop ts) (λ x. rising 0 ts x.high x.rises)

-- those behind the ones with smaller numbers
pub behind : (number : ℕ) (ts : List Token) (k : ℕ) → k ≤ length ts → AllWithin (λ t. ltb (number_of t) number ≡ true) ts 0 k → AllWithin (λ t. ltb (number_of t) number ≡ false) ts k (length ts) → drop k ts ≡ from number ts
behind number [] zero h a b = refl
behind number [] (suc k) h a b = refl
behind number (t ∷ ts) zero h a b =
    let larger = ltb-false _ _ (b 0 t (omega arith) (omega arith)) in
    rw (le-leb number t.place.token larger) (ap (λ us. t ∷ us) (behind number ts zero (omega arith) (λ k d l m. absurd (omega arith)) (λ k d l m. b (suc k) d (omega arith) (omega arith))))
behind number (t ∷ ts) (suc k) h a b =
    let smaller = ltb-true _ _ (a 0 t (omega arith) (omega arith)) in
    rw (lt-leb number t.place.token smaller) (behind number ts k (omega arith) (λ j d l m. a (suc j) d (omega arith) (omega arith)) (λ j d l m. b (suc j) d (omega arith) (omega arith)))

-- what is behind a place, up to the end
pub all_behind : (ts : List Token) (k : ℕ) → take (length ts - k) (drop k ts) ≡ drop k ts
all_behind ts k = let e = length-drop k ts in take_all (length ts - k) (drop k ts) (omega arith)
