-- Chunks: where a list of tokens is cut into declarations and functions. A cut is named by the depth of brackets at its position.
use Rattle.std.specs.Prelude.{◌≡◌, ◌≤◌, ◌<◌, ◌+◌, ◌-◌, ℕ, zero, suc, Bool, true, false, ◌&&◌, List, [], ◌∷◌, take, length, ◌⊎◌, if◌then◌else◌}
use Rattle.c_tree.specs.declared.token.Token.{Token}
use Rattle.c_tree.specs.declared.token.TokenKind.{TokenKind}
use Rattle.c_tree.specs.declared.token.TokenKind.TheVariants.{Punct}
use Rattle.c_tree.specs.declared.punctuator.Punctuator.TheVariants.{OpenParen, OpenBracket, OpenBrace, CloseParen, CloseBracket, CloseBrace, Semicolon}
use Rattle.c_lexer.specs.CReading.Strip.{is_close_paren}

-- `(`, `[` or `{`
abbrev pub opens : TokenKind → Bool
opens (Punct OpenParen) = true
opens (Punct OpenBracket) = true
opens (Punct OpenBrace) = true
opens _ = false

-- `)`, `]` or `}`
abbrev pub closes : TokenKind → Bool
closes (Punct CloseParen) = true
closes (Punct CloseBracket) = true
closes (Punct CloseBrace) = true
closes _ = false

abbrev pub is_semicolon : TokenKind → Bool
is_semicolon (Punct Semicolon) = true
is_semicolon _ = false

abbrev pub is_open_brace : TokenKind → Bool
is_open_brace (Punct OpenBrace) = true
is_open_brace _ = false

abbrev pub is_close_brace : TokenKind → Bool
is_close_brace (Punct CloseBrace) = true
is_close_brace _ = false

-- the depth behind a token: it never falls below 0
abbrev pub depth_behind : ℕ → TokenKind → ℕ
depth_behind depth kind = if opens kind then depth + 1 else (if closes kind then depth - 1 else depth)

-- the depth behind tokens
abbrev pub depth_of : ℕ → List Token → ℕ
depth_of depth [] = depth
depth_of depth (t ∷ ts) = depth_of (depth_behind depth t.kind) ts

-- the depth before the token with this number
unfoldable pub depth_at : List Token → ℕ → ℕ
depth_at ts n = depth_of 0 (take n ts)

-- whether the token with this number is of such a kind
abbrev pub kind_at : (TokenKind → Bool) → List Token → ℕ → Bool
kind_at is [] n = false
kind_at is (t ∷ ts) zero = is t.kind
kind_at is (t ∷ ts) (suc n) = kind_at is ts n

-- whether a `)` stands directly before this position
abbrev pub behind_paren : List Token → ℕ → Bool
behind_paren ts zero = false
behind_paren ts (suc n) = kind_at is_close_paren ts n

-- whether the token with this number is a `{` directly behind a `)`
abbrev pub begins_body : List Token → ℕ → Bool
begins_body ts n = behind_paren ts n && kind_at is_open_brace ts n

-- m is the last position up to n at depth 0: the bracket there is the one that last left it
pub record LeavesZero (ts : List Token) (m n : ℕ) : Type 0 where
  pub before : m < n
  pub zero : depth_at ts m ≡ 0
  pub last : (k : ℕ) → m < k → k ≤ n → 0 < depth_at ts k

-- the token with this number is a `}` that returns to depth 0, which a `{` directly behind a `)` left
pub record ClosesBody (ts : List Token) (n : ℕ) : Type 0 where
  pub brace : kind_at is_close_brace ts n ≡ true
  pub depth : depth_at ts n ≡ 1
  pub opener : ℕ
  pub left : LeavesZero ts opener n
  pub body : begins_body ts opener ≡ true

-- a chunk ends behind the token with this number
abbrev pub EndsChunk : List Token → ℕ → Type 0
EndsChunk ts n = ((kind_at is_semicolon ts n ≡ true) × (depth_at ts n ≡ 0)) ⊎ ClosesBody ts n

-- a chunk stands from one position up to another: it ends there and nowhere before, or it is what is left
pub record IsChunk (ts : List Token) (from to : ℕ) : Type 0 where
  pub some : from < to
  pub within : to ≤ length ts
  pub inside : (k : ℕ) → from ≤ k → k + 1 < to → EndsChunk ts k → ⊥
  pub ends : ((k : ℕ) × (to ≡ k + 1) × EndsChunk ts k) ⊎ (to ≡ length ts)

-- chunks follow each other from one position up to another
abbrev pub Follow : List Token → ℕ → List (ℕ × ℕ) → ℕ → Type 0
Follow ts from [] to = from ≡ to
Follow ts from (c ∷ cs) to = (c.0 ≡ from) × IsChunk ts c.0 c.1 × Follow ts c.1 cs to

-- the bounds of the chunks of these tokens
abbrev pub AreChunks : List Token → List (ℕ × ℕ) → Type 0
AreChunks ts bounds = Follow ts 0 bounds (length ts)

-- no token is left behind the last end of a chunk
abbrev pub IsCut : List Token → Type 0
IsCut ts = (n : ℕ) → length ts ≡ n + 1 → EndsChunk ts n
