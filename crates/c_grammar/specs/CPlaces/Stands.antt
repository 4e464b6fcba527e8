-- What it means that a line stands over tokens, and a node with it.
use Rattle.std.specs.Prelude.{◌≡◌, ℕ, ◌+◌, ◌≤◌, List, [], ◌∷◌, ◌++◌, Some}
use Rattle.c_tree.specs.declared.token.Token.{Token}
use Rattle.c_tree.specs.Symbol.{Symbol, symbol_of}
use Rattle.c_tree.specs.Node.{Node, node, Primary, Ident}
use Rattle.c_grammar.specs.CPlaces.Lines.{Line, nothing, kept, all_kept, fixed, at, numbered, names, ◌⨾◌, line_of}

-- `Stands l low high ts rest`: the line is that of the tokens `ts` up to `rest`; its nodes have numbers one after the other, in the order
-- in which they end, from `low` on, and `high` is behind the last.
pub data Stands : Line → ℕ → ℕ → List Token → List Token → Type 0 where
  OfNothing : {low : ℕ} {ts : List Token} → Stands nothing low low ts ts
  OfKept : {low : ℕ} {t : Token} {ts : List Token} → Stands (kept t) low low (t ∷ ts) ts
  OfAll : {low : ℕ} {us ts : List Token} → Stands (all_kept us) low low (us ++ ts) ts
  OfFixed : {low : ℕ} {s : Symbol} {t : Token} {ts : List Token} → symbol_of t ≡ s → Stands (fixed s) low low (t ∷ ts) ts
  OfPlace : {low : ℕ} {t : Token} {ts : List Token} → Stands (at t.place) low low (t ∷ ts) (t ∷ ts)
  OfNumber : {low : ℕ} {ts : List Token} → Stands (numbered low) low (low + 1) ts ts
  OfName : {low : ℕ} {t : Token} {ts : List Token} → Stands (names (Some t) (node low t.place (Primary (Ident t)))) low (low + 1) ts ts
  OfBoth : {l m : Line} {low middle high : ℕ} {ts us rest : List Token} → Stands l low middle ts us → Stands m middle high us rest → Stands (l ⨾ m) low high ts rest

-- The node stands over these tokens up to the rest.
abbrev pub StandsOver : Node → ℕ → ℕ → List Token → List Token → Type 0
StandsOver n low high ts rest = Stands (line_of n) low high ts rest

abbrev pub number_of : Node → ℕ
number_of (node id first shape) = id

-- the numbers of the nodes in a line, in its order
abbrev pub numbers_of : Line → List ℕ
numbers_of nothing = []
numbers_of (kept t) = []
numbers_of (all_kept ts) = []
numbers_of (fixed s) = []
numbers_of (at place) = []
numbers_of (numbered id) = id ∷ []
numbers_of (names token n) = number_of n ∷ []
numbers_of (l ⨾ m) = numbers_of l ++ numbers_of m

-- These numbers go up, the first is at least `low`, and none is above what comes before `high`.
abbrev pub Rises : ℕ → List ℕ → ℕ → Type 0
Rises low [] high = low ≤ high
Rises low (i ∷ is) high = (low ≤ i) × Rises (i + 1) is high
