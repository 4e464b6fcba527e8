-- All bytes of a text but the last.
use Rattle.std.proofs.Common.{◌≡◌, ℕ, zero, suc, ◌+◌, List, [], ◌∷◌, length, take, ap, refl, arith}
use Rattle.metal_grammar.specs.Words.{all_but_last}

pub all-but-last : (xs : List ℕ) (n : ℕ) → n + 1 ≡ length xs → take n xs ≡ all_but_last xs
all-but-last [] n h = absurd (omega arith)
all-but-last (b ∷ []) zero h = refl
all-but-last (b ∷ []) (suc n) h = absurd (omega arith)
all-but-last (b ∷ c ∷ bs) zero h = absurd (omega arith)
all-but-last (b ∷ c ∷ bs) (suc n) h = ap (λ xs. b ∷ xs) (all-but-last (c ∷ bs) n (omega arith))
