-- A run that is gone along, one token after the other.
use Rattle.std.proofs.Common.{◌≡◌, ℕ, zero, suc, ◌+◌, ◌<◌, ◌≤◌, Bool, true, false, List, [], ◌∷◌, ◌++◌, length, get_or, take, drop, ap, refl, ◌∙◌, add-one, arith}
use Rattle.c_tree.specs.declared.token.Token.{Token}
use Rattle.c_tree.specs.Symbol.{Symbol, symbol_of, symbols_of}
use Rattle.c_grammar.specs.Symbols.{run_of, after_run}

-- the run of tokens that begins with these, the first i of them passed
abbrev pub run_behind : (Symbol → Bool) → List Token → ℕ → List Symbol
run_behind is ts i = symbols_of (take i ts) ++ run_of is (symbols_of (drop i ts))

step : (is : Symbol → Bool) (ts : List Token) (i : ℕ) (d : Token) → i < length ts → is (symbol_of (get_or ts i d)) ≡ true
    → (run_behind is ts (suc i) ≡ run_behind is ts i) × (after_run is (symbols_of (drop (suc i) ts)) ≡ after_run is (symbols_of (drop i ts)))
unfolding run_of after_run
step is [] i d h k = absurd (omega arith)
step is (t ∷ ts) zero d h k = (rw k refl, rw k refl)
step is (t ∷ ts) (suc i) d h k = let s = step is ts i d (omega arith) k in (ap (λ x. symbol_of t ∷ x) s.0, s.1)

pub run_step : (is : Symbol → Bool) (ts : List Token) (i : ℕ) (d : Token) → i < length ts → is (symbol_of (get_or ts i d)) ≡ true
    → run_behind is ts (i + 1) ≡ run_behind is ts i
run_step is ts i d h k = ap (run_behind is ts) (add-one i) ∙ (step is ts i d h k).0

pub after_run_step : (is : Symbol → Bool) (ts : List Token) (i : ℕ) (d : Token) → i < length ts → is (symbol_of (get_or ts i d)) ≡ true
    → after_run is (symbols_of (drop (i + 1) ts)) ≡ after_run is (symbols_of (drop i ts))
after_run_step is ts i d h k = ap (λ j. after_run is (symbols_of (drop j ts))) (add-one i) ∙ (step is ts i d h k).1

end : (is : Symbol → Bool) (ts : List Token) (i : ℕ) (d : Token) → i < length ts → is (symbol_of (get_or ts i d)) ≡ false
    → (run_behind is ts i ≡ symbols_of (take i ts)) × (after_run is (symbols_of (drop i ts)) ≡ symbols_of (drop i ts))
unfolding run_of after_run
end is [] i d h k = absurd (omega arith)
end is (t ∷ ts) zero d h k = (rw k refl, rw k refl)
end is (t ∷ ts) (suc i) d h k = let s = end is ts i d (omega arith) k in (ap (λ x. symbol_of t ∷ x) s.0, s.1)

-- a run ends in front of the first token that has no part in it
pub run_end : (is : Symbol → Bool) (ts : List Token) (i : ℕ) (d : Token) → i < length ts → is (symbol_of (get_or ts i d)) ≡ false
    → run_behind is ts i ≡ symbols_of (take i ts)
run_end is ts i d h k = (end is ts i d h k).0

pub after_run_end : (is : Symbol → Bool) (ts : List Token) (i : ℕ) (d : Token) → i < length ts → is (symbol_of (get_or ts i d)) ≡ false
    → after_run is (symbols_of (drop i ts)) ≡ symbols_of (drop i ts)
after_run_end is ts i d h k = (end is ts i d h k).1

over : (is : Symbol → Bool) (ts : List Token) (i : ℕ) → length ts ≤ i
    → (run_behind is ts i ≡ symbols_of (take i ts)) × (after_run is (symbols_of (drop i ts)) ≡ symbols_of (drop i ts))
unfolding run_of after_run
over is [] zero h = (refl, refl)
over is [] (suc i) h = (refl, refl)
over is (t ∷ ts) zero h = absurd (omega arith)
over is (t ∷ ts) (suc i) h = let s = over is ts i (omega arith) in (ap (λ x. symbol_of t ∷ x) s.0, s.1)

-- or with the last token
pub run_over : (is : Symbol → Bool) (ts : List Token) (i : ℕ) → length ts ≤ i → run_behind is ts i ≡ symbols_of (take i ts)
run_over is ts i h = (over is ts i h).0

pub after_run_over : (is : Symbol → Bool) (ts : List Token) (i : ℕ) → length ts ≤ i → after_run is (symbols_of (drop i ts)) ≡ symbols_of (drop i ts)
after_run_over is ts i h = (over is ts i h).1

pub ruleset runs = (run_step, after_run_step, run_end, after_run_end, run_over, after_run_over)
