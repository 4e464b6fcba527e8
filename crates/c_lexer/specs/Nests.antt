-- What is known at a position of the brackets before it.
use Rattle.std.specs.Prelude.{◌≡◌, ◌<◌, ◌==◌, ◌&&◌, ◌||◌, ℕ, Bool, List, if◌then◌else◌}
use Rattle.c_tree.specs.declared.token.Token.{Token}
use Rattle.c_tree.specs.declared.token.TokenKind.{TokenKind}
use Rattle.c_lexer.specs.CReading.Chunks.{is_semicolon, is_close_brace, is_open_brace, depth_at, behind_paren, begins_body, LeavesZero}

-- the depth, whether a `)` stands directly before, and, inside brackets, whether the bracket that last left depth 0 begins a body
pub record Nests (ts : List Token) (n : ℕ) (depth : ℕ) (paren body : Bool) : Type 0 where
  pub depth_is : depth ≡ depth_at ts n
  pub paren_is : paren ≡ behind_paren ts n
  pub inside : 0 < depth → (m : ℕ) × LeavesZero ts m n × (body ≡ begins_body ts m)

-- whether a chunk ends behind a token of this kind
abbrev pub ends_here : ℕ → Bool → TokenKind → Bool
ends_here depth body kind = (is_semicolon kind && (depth == 0)) || (is_close_brace kind && ((depth == 1) && body))

-- whether the bracket that last left depth 0, behind a token of this kind, begins a body
abbrev pub body_behind : ℕ → Bool → Bool → TokenKind → Bool
body_behind depth paren body kind = if depth == 0 then paren && is_open_brace kind else body
