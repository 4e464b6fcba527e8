-- The numbers of a line that stands over tokens rise.
use Rattle.std.proofs.Common.{ℕ, ◌+◌, List, [], ◌∷◌, ◌++◌, arith}
use Rattle.c_tree.specs.declared.token.Token.{Token}
use Rattle.c_grammar.specs.CPlaces.Lines.{Line, nothing, kept, all_kept, fixed, at, numbered, names, ◌⨾◌}
use Rattle.c_grammar.specs.CPlaces.Stands.{Stands, OfNothing, OfKept, OfAll, OfFixed, OfPlace, OfNumber, OfName, OfBoth, numbers_of, Rises}

rises_then : (is js : List ℕ) (low middle high : ℕ) → Rises low is middle → Rises middle js high → Rises low (is ++ js) high
rises_then [] [] low middle high h k = omega arith
rises_then [] (j ∷ js) low middle high h k = (omega arith, k.1)
rises_then (i ∷ is) js low middle high h k = (h.0, rises_then is js (i + 1) middle high h.1 k)

pub numbers : (l : Line) (low high : ℕ) (ts rest : List Token) → Stands l low high ts rest → Rises low (numbers_of l) high
numbers nothing low high ts rest OfNothing = omega arith
numbers (kept t) low high ts rest OfKept = omega arith
numbers (all_kept us) low high ts rest OfAll = omega arith
numbers (fixed s) low high ts rest (OfFixed e) = omega arith
numbers (at p) low high ts rest OfPlace = omega arith
numbers (numbered id) low high ts rest OfNumber = (omega arith, omega arith)
numbers (names token n) low high ts rest OfName = (omega arith, omega arith)
numbers (l ⨾ m) low high ts rest (OfBoth {middle = middle} {us = us} h k) = rises_then (numbers_of l) (numbers_of m) low middle high (numbers l low middle ts us h) (numbers m middle high us rest k)
