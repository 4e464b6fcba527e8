-- Bytes that go on, each after the one before it.
use Rattle.std.specs.Prelude.{ℕ, suc, Bool, true, cond, ◌&&◌, List, [], ◌∷◌}

-- each byte goes on after the one before it, the first after p
abbrev pub goes_through : (ℕ → ℕ → Bool) → ℕ → List ℕ → Bool
goes_through goes p [] = true
goes_through goes p (c ∷ cs) = goes p c && goes_through goes c cs

-- how many bytes go on after p
abbrev pub run_len : (ℕ → ℕ → Bool) → ℕ → List ℕ → ℕ
run_len goes p [] = 0
run_len goes p (c ∷ cs) = cond (goes p c) (suc (run_len goes c cs)) 0
