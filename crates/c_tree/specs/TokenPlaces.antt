-- Where the tokens of a source stand: in its file, one after the other.
use Rattle.std.specs.Prelude.{◌≡◌, ◌+◌, ◌≤◌, ℕ, List, [], ◌∷◌, ⊤}
use Rattle.c_tree.specs.declared.token.Token.{Token}

-- the numbers of the tokens' places rise from low on, and stay below high
abbrev pub Rises : ℕ → List Token → ℕ → Type 0
Rises low [] high = low ≤ high
Rises low (t ∷ ts) high = (low ≤ t.place.token) × Rises (t.place.token + 1) ts high

-- the places are of the file with this number
abbrev pub AreOfFile : ℕ → List Token → Type 0
AreOfFile file [] = ⊤
AreOfFile file (t ∷ ts) = (t.place.file ≡ file) × AreOfFile file ts

-- the places are of the file with this number, and rise
pub record StandInFile (file : ℕ) (ts : List Token) : Type 0 where
  pub high : ℕ
  pub rises : Rises 0 ts high
  pub of_file : AreOfFile file ts
