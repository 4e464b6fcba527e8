-- Behind a piece: what the lexer keeps is what the definition gives.
use Rattle.std.proofs.Common.{◌≡◌, ℕ, ◌+◌, ◌≤◌, Bool, true, false, List, [], ◌∷◌, ◌++◌, length, take, drop, Some, slice_get, slice_index, refl, ap, sym, ◌∙◌, subst, arith, Result, Ok, Err, IfOk, length-drop}
use Rattle.std.proofs.lemmas.List.{append-nil, length-take-le}
use Rattle.c_tree.specs.declared.token.Token.{Token}
use Rattle.c_tree.specs.declared.token.TokenKind.{TokenKind}
use Rattle.c_lexer.specs.declared.c_reading.mode.Mode.{Mode}
use Rattle.c_lexer.specs.CReading.Markers.{marker_of}
use Rattle.c_lexer.specs.CReading.Pieces as pieces
use Rattle.c_lexer.specs.CReading.Pieces.{behind, behind_byte, behind_bytes, further, on_next_line}
use Rattle.c_lexer.specs.CReading.Reading.{lexeme_at, lexeme_of}
use Rattle.c_lexer.specs.declared.here.Here.{Here}
use Rattle.c_lexer.specs.declared.markers.Marker.{Marker}
use Rattle.c_lexer.specs.declared.pieces.Piece.{Piece}
use Rattle.c_lexer.specs.declared.pieces.Piece.TheVariants.{Space, Comment, LineComment, MarkerLine, Spelling}
use Rattle.c_lexer.specs.Found.{marker_view}
use Rattle.c_lexer.specs.Pieces.{piece_view, Says}
use Rattle.c_lexer.specs.Progress.{here_of, Steps, Lands}
use Rattle.c_lexer.specs.Tokens.{IsToken}

module _ (mode : Mode) (number : ℕ) (names : List (List ℕ)) (word : List ℕ) (here next : Here) (bs : List ℕ) (old : List Token) where
  -- a piece that gives no token and leaves the file
  steps_blank : (p : pieces.Piece) → slice_get names here.source ≡ Some word → next.source ≡ here.source → here_of word next ≡ behind (here_of word here) p → lexeme_at mode (here_of word here) p ≡ [] → Steps mode number names word here next p old old
  steps_blank p known source stands none = record {
    next_file = word;
    known = rw source known;
    stands = stands;
    more = [];
    pushed = sym (append-nil old);
    tokens = rw none tt;
  }

  piece_is : (piece known : Piece) → piece ≡ known → Steps mode number names word here next (piece_view known bs) old old → Steps mode number names word here next (piece_view piece bs) old old
  piece_is piece known e s = subst (λ x. Steps mode number names word here next (piece_view x bs) old old) (sym e) s

  pub behind_space : (piece : Piece) → piece ≡ Space → slice_get names here.source ≡ Some word → next.source ≡ here.source → here_of word next ≡ behind_byte (here_of word here) (slice_index bs 0) → Steps mode number names word here next (piece_view piece bs) old old
  behind_space piece e known source stands = piece_is piece Space e (steps_blank (piece_view Space bs) known source stands refl)

  pub behind_comment : (piece : Piece) (n : ℕ) → piece ≡ Comment n → slice_get names here.source ≡ Some word → next.source ≡ here.source → here_of word next ≡ record (behind_bytes (here_of word here) (take n bs)) { first = false } → Steps mode number names word here next (piece_view piece bs) old old
  behind_comment piece n e known source stands = piece_is piece (Comment n) e (steps_blank (piece_view (Comment n) bs) known source stands refl)

  taken_behind : (k n : ℕ) → n + k ≤ length bs → length (take n (drop k bs)) ≡ n
  taken_behind k n h = length-take-le n (drop k bs) (rw (length-drop k bs) (omega arith))

  pub behind_line_comment : (piece : Piece) (n : ℕ) → piece ≡ LineComment n → n + 2 ≤ length bs → slice_get names here.source ≡ Some word → next.source ≡ here.source → here_of word next ≡ further (here_of word here) (n + 2) → Steps mode number names word here next (piece_view piece bs) old old
  behind_line_comment piece n e fits known source stands =
      let size = taken_behind 2 n fits in
      let lands : here_of word next ≡ further (here_of word here) (length (take n (drop 2 bs)) + 2) = stands ∙ ap (λ m. further (here_of word here) (m + 2)) (sym size) in
      piece_is piece (LineComment n) e (steps_blank (piece_view (LineComment n) bs) known source lands refl)

  pub behind_open_marker : (piece : Piece) (n : ℕ) (ended : Bool) (marker : Marker) → piece ≡ MarkerLine n ended marker → ended ≡ false → n + 1 ≤ length bs → slice_get names here.source ≡ Some word → next.source ≡ here.source → here_of word next ≡ further (here_of word here) (n + 1) → Steps mode number names word here next (piece_view piece bs) old old
  behind_open_marker piece n ended marker e unended fits known source stands =
      let size = taken_behind 1 n fits in
      let lands : here_of word next ≡ further (here_of word here) (length (take n (drop 1 bs)) + 1) = stands ∙ ap (λ m. further (here_of word here) (m + 1)) (sym size) in
      let k : piece ≡ MarkerLine n false marker = e ∙ ap (λ b. MarkerLine n b marker) unended in
      piece_is piece (MarkerLine n false marker) k (steps_blank (piece_view (MarkerLine n false marker) bs) known source lands refl)

  pub behind_marker : (piece : Piece) (n : ℕ) (ended : Bool) (marker : Marker) → piece ≡ MarkerLine n ended marker → ended ≡ true → n + 2 ≤ length bs → Says mode piece bs → Lands names next (on_next_line (here_of word here) (n + 2) (Some (marker_view marker))) → Steps mode number names word here next (piece_view piece bs) old old
  behind_marker piece n ended marker e closed fits says lands =
      let size = taken_behind 1 n (omega arith) in
      let k : piece ≡ MarkerLine n true marker = e ∙ ap (λ b. MarkerLine n b marker) closed in
      let said : Says mode (MarkerLine n true marker) bs = subst (λ x. Says mode x bs) k says in
      let stands : here_of lands.file next ≡ on_next_line (here_of word here) (length (take n (drop 1 bs)) + 2) (marker_of (take n (drop 1 bs))) = rw (said.0, size) (lands.stands) in
      piece_is piece (MarkerLine n true marker) k (record {
        next_file = lands.file;
        known = lands.known;
        stands = stands;
        more = [];
        pushed = sym (append-nil old);
        tokens = tt;
      })

  pub behind_spelling : (piece : Piece) (n : ℕ) (kind : TokenKind) (new : List Token) (token : Token) → piece ≡ Spelling n kind → n ≤ length bs → Says mode piece bs → slice_get names here.source ≡ Some word → next.source ≡ here.source → here_of word next ≡ further (here_of word here) n → new ≡ old ++ token ∷ [] → IsToken number names (length old) (lexeme_of (here_of word here) (take n bs) kind) token → Steps mode number names word here next (piece_view piece bs) old new
  behind_spelling piece n kind new token e fits says known source stands pushed is =
      let size : length (take n bs) ≡ n = length-take-le n bs fits in
      let said : Says mode (Spelling n kind) bs = subst (λ x. Says mode x bs) e says in
      let lands : here_of word next ≡ further (here_of word here) (length (take n bs)) = rw size stands in
      subst (λ x. Steps mode number names word here next (piece_view x bs) old new) (sym e) (record {
        next_file = word;
        known = rw source known;
        stands = lands;
        more = token ∷ [];
        pushed = pushed;
        tokens = rw said (is, tt);
      })

-- what holds of each answer, where a fact of the answer gives it
pub if_ok : {A E : Type 0} (P Q : A → Type 0) (r : Result A E) → IfOk r P → ((x : A) → P x → Q x) → IfOk r Q
if_ok P Q (Ok x) h f = f x h
if_ok P Q (Err e) h f = tt
