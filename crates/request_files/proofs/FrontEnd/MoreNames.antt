-- The names of tokens are names, and the tokens of a reading stay its tokens once there are more names.
use Rattle.std.proofs.Common.{ℕ, ◌+◌, List, [], ◌∷◌, length}
use Rattle.std.proofs.lemmas.Option.{slice_get_within}
use Rattle.mx_base.specs.Names.{AddsAtMost}
use Rattle.mx_base.proofs.NameLaws.{kept_number}
use Rattle.c_tree.specs.declared.token.Token.{Token}
use Rattle.c_lexer.specs.declared.c_reading.mode.Mode.{Mode}
use Rattle.c_lexer.specs.CReading.Pieces.{Piece, beginning}
use Rattle.c_lexer.specs.CReading.Reading.{Lexeme, lexemes}
use Rattle.c_lexer.specs.Tokens.{IsToken, AreTokens, Lexes, TokenList}
use Rattle.metal_written.specs.Texts.{AreBelow}

tokens_below : (number : ℕ) (names : List (List ℕ)) (before : ℕ) (ls : List Lexeme) (ts : List Token) → AreTokens number names before ls ts → AreBelow (length names) ts
tokens_below number names before [] [] a = tt
tokens_below number names before [] (t ∷ ts) a = absurd a
tokens_below number names before (l ∷ ls) [] a = absurd a
tokens_below number names before (l ∷ ls) (t ∷ ts) a = (slice_get_within names t.name l.spelling a.0.name, tokens_below number names (before + 1) ls ts a.1)

-- the numbers of the names of tokens are below their count
pub lexed_below : (mode : Mode) (number : ℕ) (word : List ℕ) (names : List (List ℕ)) (pieces : List Piece) (list : TokenList) → Lexes mode number word names pieces list → AreBelow (length names) list.all
lexed_below mode number word names pieces list x = tokens_below number names 0 _ list.all x.tokens

module _ (number : ℕ) (names later : List (List ℕ)) (most : ℕ) (adds : AddsAtMost names later most) where
  still_token : (before : ℕ) (l : Lexeme) (t : Token) → IsToken number names before l t → IsToken number later before l t
  still_token before l t k = record {
    kind = k.kind;
    name = kept_number names later most t.name l.spelling adds k.name;
    start = k.start;
    len = k.len;
    line = k.line;
    col = k.col;
    source = kept_number names later most t.source l.here.file adds k.source;
    file = k.file;
    place = k.place;
  }

  still_tokens : (before : ℕ) (ls : List Lexeme) (ts : List Token) → AreTokens number names before ls ts → AreTokens number later before ls ts
  still_tokens before [] [] a = tt
  still_tokens before [] (t ∷ ts) a = absurd a
  still_tokens before (l ∷ ls) [] a = absurd a
  still_tokens before (l ∷ ls) (t ∷ ts) a = (still_token before l t a.0, still_tokens (before + 1) ls ts a.1)

  pub still_lexed : (mode : Mode) (word : List ℕ) (pieces : List Piece) (list : TokenList) → Lexes mode number word names pieces list → Lexes mode number word later pieces list
  still_lexed mode word pieces list x = record {
    tokens = still_tokens 0 (lexemes mode (beginning word) pieces) list.all x.tokens;
    end = record {
      file = x.end.file;
      place = x.end.place;
      source = kept_number names later most list.end.source _ adds x.end.source;
      line = x.end.line;
      col = x.end.col;
    };
  }
