-- The bytes in front that pass a test, and those that go on one after the other.
use Rattle.std.proofs.Common.{◌≡◌, ℕ, suc, ◌+◌, ◌≤◌, Bool, true, List, [], ◌∷◌, ◌++◌, length, take, inl, inr, refl, arith}
use Rattle.std.specs.List.{list_all, prefix_len}
use Rattle.c_lexer.specs.CReading.Runs.{goes_through, run_len}
use Rattle.c_lexer.proofs.CReading.Tests.{cases, both}

one_more : (n : ℕ) → 1 + n ≡ suc n
one_more n = omega arith

module _ (p : ℕ → Bool) where
  -- those in front pass
  pub prefix_passes : (xs : List ℕ) → list_all p (take (prefix_len p xs) xs) ≡ true
  prefix_passes [] = refl
  prefix_passes (x ∷ xs) = elim (cases (p x)) as (λ _. list_all p (take (prefix_len p (x ∷ xs)) (x ∷ xs)) ≡ true) [
    | inl e ↦ rw (e, one_more (prefix_len p xs), e) (prefix_passes xs)
    | inr e ↦ rw e refl
  ]

  -- those that pass are in front
  pub prefix_of_passes : (xs ys : List ℕ) → list_all p xs ≡ true → prefix_len p (xs ++ ys) ≡ length xs + prefix_len p ys
  prefix_of_passes [] ys h = omega arith
  prefix_of_passes (x ∷ xs) ys h =
      let q = both (p x) (list_all p xs) h in
      rw (q.0) (omega (arith, prefix_of_passes xs ys q.1))

module _ (goes : ℕ → ℕ → Bool) where
  pub run_goes : (p : ℕ) (xs : List ℕ) → goes_through goes p (take (run_len goes p xs) xs) ≡ true
  run_goes p [] = refl
  run_goes p (x ∷ xs) = elim (cases (goes p x)) as (λ _. goes_through goes p (take (run_len goes p (x ∷ xs)) (x ∷ xs)) ≡ true) [
    | inl e ↦ rw (e, e) (run_goes x xs)
    | inr e ↦ rw e refl
  ]

  pub run_of_goes : (p : ℕ) (xs ys : List ℕ) → goes_through goes p xs ≡ true → length xs ≤ run_len goes p (xs ++ ys)
  run_of_goes p [] ys h = omega arith
  run_of_goes p (x ∷ xs) ys h =
      let q = both (goes p x) (goes_through goes x xs) h in
      rw (q.0) (omega (arith, run_of_goes x xs ys q.1))

  pub run_len-le : (p : ℕ) (xs : List ℕ) → run_len goes p xs ≤ length xs
  run_len-le p [] = omega arith
  run_len-le p (x ∷ xs) = elim (cases (goes p x)) as (λ _. run_len goes p (x ∷ xs) ≤ length (x ∷ xs)) [
    | inl e ↦ rw e (omega (arith, run_len-le x xs))
    | inr e ↦ rw e (omega arith)
  ]
