-- Where the tokens stand that strip keeps: their numbers rise, and they are of the same file.
use Rattle.std.proofs.Common.{ℕ, zero, suc, ◌+◌, ◌≤◌, List, [], ◌∷◌, Option, None, Some, arith}
use Rattle.c_tree.specs.declared.token.Token.{Token}
use Rattle.c_lexer.specs.CReading.Strip.{dropped_with, kept, stripped_behind, if_dropped}
use Rattle.c_tree.specs.TokenPlaces.{AreOfFile, Rises}

rises_lower : (low lower : ℕ) (ts : List Token) (high : ℕ) → lower ≤ low → Rises low ts high → Rises lower ts high
rises_lower low lower [] high h r = omega arith
rises_lower low lower (t ∷ ts) high h r = (let a = r.0 in omega arith, r.1)

pub rises_stripped : (n low : ℕ) (ts : List Token) (high : ℕ) → Rises low ts high → Rises low (stripped_behind n ts) high
unfolding stripped_behind
rises_stripped zero low [] high r = r
rises_stripped (suc n) low [] high r = r
rises_stripped (suc n) low (t ∷ ts) high r = rises_lower (t.place.token + 1) low (stripped_behind n ts) high (let a = r.0 in omega arith) (rises_stripped n (t.place.token + 1) ts high r.1)
rises_stripped zero low (t ∷ ts) high r = by (dropped_with t.kind ts) (λ m. rises_stripped m (t.place.token + 1) ts high r.1)
  where
    by : (o : Option ℕ) → ((m : ℕ) → Rises (t.place.token + 1) (stripped_behind m ts) high) → Rises low (if_dropped o (kept t ∷ stripped_behind 0 ts) (λ m. stripped_behind m ts)) high
    by None below = (r.0, below 0)
    by (Some m) below = rises_lower (t.place.token + 1) low (stripped_behind m ts) high (let a = r.0 in omega arith) (below m)

pub file_stripped : (n file : ℕ) (ts : List Token) → AreOfFile file ts → AreOfFile file (stripped_behind n ts)
unfolding stripped_behind
file_stripped zero file [] a = a
file_stripped (suc n) file [] a = a
file_stripped (suc n) file (t ∷ ts) a = file_stripped n file ts a.1
file_stripped zero file (t ∷ ts) a = by (dropped_with t.kind ts) (λ m. file_stripped m file ts a.1)
  where
    by : (o : Option ℕ) → ((m : ℕ) → AreOfFile file (stripped_behind m ts)) → AreOfFile file (if_dropped o (kept t ∷ stripped_behind 0 ts) (λ m. stripped_behind m ts))
    by None below = (a.0, below 0)
    by (Some m) below = below m
