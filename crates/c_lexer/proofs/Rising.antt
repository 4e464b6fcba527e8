-- How many tokens there are whose numbers rise.
use Rattle.std.proofs.Common.{ℕ, ◌+◌, ◌≤◌, List, [], ◌∷◌, length, arith}
use Rattle.c_tree.specs.declared.token.Token.{Token}
use Rattle.c_tree.specs.TokenPlaces.{Rises}

count : (low : ℕ) (ts : List Token) (high : ℕ) → Rises low ts high → low + length ts ≤ high
count low [] high r = omega arith
count low (t ∷ ts) high r = let a = count (t.place.token + 1) ts high r.1 in let b = r.0 in omega arith

pub rises_count : (ts : List Token) (high : ℕ) → Rises 0 ts high → length ts ≤ high
rises_count ts high r = let a = count 0 ts high r in omega arith
