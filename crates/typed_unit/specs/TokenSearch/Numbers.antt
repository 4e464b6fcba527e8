-- Tokens by the numbers of their places.
use Rattle.std.specs.Prelude.{ℕ, leb, List, filter}
use Rattle.c_tree.specs.declared.token.Token.{Token}

-- the tokens from the one with this number on
abbrev pub from : ℕ → List Token → List Token
from number tokens = filter (λ t. leb number t.place.token) tokens
