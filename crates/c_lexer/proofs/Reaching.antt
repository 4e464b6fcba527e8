-- From piece to piece: what the lexer has kept stays what the definition gives.
use Rattle.std.proofs.Common.{◌≡◌, ◌≢◌, ℕ, ◌+◌, ◌≤◌, ◌<◌, true, false, List, [], ◌∷◌, ◌++◌, length, take, drop, None, Some, slice_get, Ok, refl, ap, sym, ◌∙◌, subst, arith, length-append, length-drop}
use Rattle.std.proofs.lemmas.List.{length-take-le, drop_at}
use Rattle.mx_base.specs.Names.{AddsAtMost, HasNoRepeats, names_after}
use Rattle.mx_base.proofs.NameLaws.{kept_number, adds_both}
use Rattle.c_tree.specs.declared.token.Token.{Token}
use Rattle.c_lexer.specs.declared.c_reading.mode.Mode.{Mode}
use Rattle.c_lexer.specs.declared.c_reading.fault.Fault.{Fault}
use Rattle.c_lexer.specs.CReading.Pieces as pieces
use Rattle.c_lexer.specs.CReading.Pieces.{bytes_of, beginning, behind, behind_all}
use Rattle.c_lexer.specs.CReading.Reading.{IsNext, Cuts, Lexeme, lexeme_at, lexemes, fault_at, IsFaulty, IsReading}
use Rattle.c_lexer.specs.Ways.Cutting.{cut}
use Rattle.c_lexer.proofs.CReading.OnePiece.{cut-sound}
use Rattle.c_lexer.proofs.CReading.Readings.{cuts-push, behind-push, lexemes-push, faulty, one_reading, no_reading, one_fault}
use Rattle.c_lexer.specs.declared.here.Here.{Here}
use Rattle.c_lexer.specs.declared.fault.Spot.{Spot}
use Rattle.c_lexer.specs.declared.pieces.Piece.{Piece}
use Rattle.c_lexer.specs.declared.pieces.Piece.TheVariants.{Space, Comment, LineComment, MarkerLine, Spelling}
use Rattle.c_lexer.specs.Pieces.{piece_view, piece_len, GivesPiece}
use Rattle.c_lexer.specs.Progress.{here_of, InBounds, Steps, Reached, spot_of}
use Rattle.c_lexer.specs.declared.c_reading.fault.Fault.TheVariants.{BadByte, OpenText, BadNumber, BadMarker}
use Rattle.c_lexer.specs.Faults.{fault_there}
use Rattle.c_lexer.specs.Naming.{text_named, with_name, named_by}
use Rattle.c_tree.specs.TokenPlaces.{AreOfFile, Rises}
use Rattle.c_lexer.specs.Tokens.{TokenList, IsToken, AreTokens, IsSpot, Lexes, IsFault, IsThere, Refuses}

-- ---- tokens

keeps_token : (number : ℕ) (old new : List (List ℕ)) (most before : ℕ) (l : Lexeme) (t : Token) → AddsAtMost old new most → IsToken number old before l t → IsToken number new before l t
keeps_token number old new most before l t adds i = record {
  kind = i.kind;
  name = kept_number old new most t.name l.spelling adds i.name;
  start = i.start;
  len = i.len;
  line = i.line;
  col = i.col;
  source = kept_number old new most t.source l.here.file adds i.source;
  file = i.file;
  place = i.place;
}

-- more names leave tokens what they are
pub keeps_tokens : (number : ℕ) (old new : List (List ℕ)) (most before : ℕ) (ls : List Lexeme) (ts : List Token) → AddsAtMost old new most → AreTokens number old before ls ts → AreTokens number new before ls ts
keeps_tokens number old new most before [] [] adds a = tt
keeps_tokens number old new most before [] (t ∷ ts) adds a = absurd a
keeps_tokens number old new most before (l ∷ ls) [] adds a = absurd a
keeps_tokens number old new most before (l ∷ ls) (t ∷ ts) adds a = (keeps_token number old new most before l t adds a.0, keeps_tokens number old new most (before + 1) ls ts adds a.1)

pub tokens-append : (number : ℕ) (names : List (List ℕ)) (before : ℕ) (ls ms : List Lexeme) (ts us : List Token) → AreTokens number names before ls ts → AreTokens number names (before + length ts) ms us → AreTokens number names before (ls ++ ms) (ts ++ us)
tokens-append number names before [] ms [] us a b = let z : before + 0 ≡ before = omega arith in rw z at b
tokens-append number names before [] ms (t ∷ ts) us a b = absurd a
tokens-append number names before (l ∷ ls) ms [] us a b = absurd a
tokens-append number names before (l ∷ ls) ms (t ∷ ts) us a b =
    let z : before + length (t ∷ ts) ≡ (before + 1) + length ts = omega arith in
    (a.0, tokens-append number names (before + 1) ls ms ts us a.1 (rw z at b))

pub tokens_rise : (number : ℕ) (names : List (List ℕ)) (before : ℕ) (ls : List Lexeme) (ts : List Token) → AreTokens number names before ls ts → Rises before ts (before + length ts)
tokens_rise number names before [] [] a = omega arith
tokens_rise number names before [] (t ∷ ts) a = absurd a
tokens_rise number names before (l ∷ ls) [] a = absurd a
tokens_rise number names before (l ∷ ls) (t ∷ ts) a =
    let p = a.0.place in
    let z : (before + 1) + length ts ≡ before + length (t ∷ ts) = omega arith in
    let r : Rises (before + 1) ts (before + length (t ∷ ts)) = rw z at (tokens_rise number names (before + 1) ls ts a.1) in
    (omega arith, rw p r)

pub tokens_of_file : (number : ℕ) (names : List (List ℕ)) (before : ℕ) (ls : List Lexeme) (ts : List Token) → AreTokens number names before ls ts → AreOfFile number ts
tokens_of_file number names before [] [] a = tt
tokens_of_file number names before [] (t ∷ ts) a = absurd a
tokens_of_file number names before (l ∷ ls) [] a = absurd a
tokens_of_file number names before (l ∷ ls) (t ∷ ts) a = (a.0.file, tokens_of_file number names (before + 1) ls ts a.1)

pub tokens_count : (number : ℕ) (names : List (List ℕ)) (before : ℕ) (ls : List Lexeme) (ts : List Token) → AreTokens number names before ls ts → length ls ≡ length ts
tokens_count number names before [] [] a = refl
tokens_count number names before [] (t ∷ ts) a = absurd a
tokens_count number names before (l ∷ ls) [] a = absurd a
tokens_count number names before (l ∷ ls) (t ∷ ts) a = omega (arith, tokens_count number names (before + 1) ls ts a.1)

-- ---- pieces

-- a piece is as long as its bytes
piece_size : (p : Piece) (bs : List ℕ) → 1 ≤ piece_len p → piece_len p ≤ length bs → length (bytes_of (piece_view p bs)) ≡ piece_len p
piece_size Space bs s h = omega arith
piece_size (Comment n) bs s h = length-take-le n bs h
piece_size (LineComment n) bs s h =
    let k : length (take n (drop 2 bs)) ≡ n = length-take-le n (drop 2 bs) (rw (length-drop 2 bs) (omega arith)) in
    omega arith
piece_size (MarkerLine n true marker) bs s h =
    let k : length (take n (drop 1 bs)) ≡ n = length-take-le n (drop 1 bs) (rw (length-drop 1 bs) (omega arith)) in
    omega (arith, length-append (take n (drop 1 bs)) (10 ∷ []))
piece_size (MarkerLine n false marker) bs s h =
    let k : length (take n (drop 1 bs)) ≡ n = length-take-le n (drop 1 bs) (rw (length-drop 1 bs) (omega arith)) in
    omega (arith, length-append (take n (drop 1 bs)) [])
piece_size (Spelling n kind) bs s h = length-take-le n bs h

-- ---- names

named-push : (names : List (List ℕ)) (ps : List pieces.Piece) (p : pieces.Piece) → named_by names (ps ++ p ∷ []) ≡ with_name (named_by names ps) (text_named p)
named-push names [] p = refl
named-push names (q ∷ qs) p = named-push (with_name names (text_named q)) qs p

-- ---- one step

module _ (mode : Mode) (number : ℕ) (word bytes : List ℕ) (before : List (List ℕ)) where
  -- behind the piece in front
  pub reached_next : (rest : List ℕ) (here next : Here) (kept new : List Token) (names later : List (List ℕ)) (p : Piece) (r : Reached mode number word bytes before rest here kept names) →
      GivesPiece mode here.first rest (Ok p) → Steps mode number later r.file here next (piece_view p rest) kept new →
      later ≡ with_name names (text_named (piece_view p rest)) → AddsAtMost names later 1 → HasNoRepeats later → InBounds next → next.offset ≡ here.offset + piece_len p →
      Reached mode number word bytes before (drop (piece_len p) rest) next new later
  reached_next rest here next kept new names later p r g s named adds once bounds offset =
      let view = piece_view p rest in
      let f = cut-sound mode here.first rest view g.0 in
      let size = piece_size p rest g.1 g.2 in
      let left : drop (piece_len p) rest ≡ f.rest = ap (drop (piece_len p)) f.joined ∙ drop_at (bytes_of view) f.rest (piece_len p) size in
      let place : here_of r.file here ≡ behind_all (beginning word) r.cut = r.stands in
      let first : here.first ≡ (behind_all (beginning word) r.cut).first = ap (λ h. h.first) place in
      let n : IsNext mode (behind_all (beginning word) r.cut).first view f.rest = subst (λ b. IsNext mode b view f.rest) first f.next in
      let c : Cuts mode (beginning word) (r.cut ++ view ∷ []) bytes f.rest = cuts-push mode (beginning word) r.cut view bytes rest f.rest r.cuts f.joined n in
      let stands : here_of s.next_file next ≡ behind_all (beginning word) (r.cut ++ view ∷ []) = s.stands ∙ ap (λ h. behind h view) place ∙ sym (behind-push (beginning word) r.cut view) in
      let old_tokens = keeps_tokens number names later 1 0 (lexemes mode (beginning word) r.cut) kept adds r.tokens in
      let new_tokens : AreTokens number later (length kept) (lexeme_at mode (behind_all (beginning word) r.cut) view) s.more = subst (λ h. AreTokens number later (length kept) (lexeme_at mode h view) s.more) place s.tokens in
      let zero : 0 + length kept ≡ length kept = omega arith in
      let joined = tokens-append number later 0 (lexemes mode (beginning word) r.cut) (lexeme_at mode (behind_all (beginning word) r.cut) view) kept s.more old_tokens (rw zero new_tokens) in
      let pushed : AreTokens number later 0 (lexemes mode (beginning word) (r.cut ++ view ∷ [])) new = rw (lexemes-push mode (beginning word) r.cut view, s.pushed) joined in
      let total : AddsAtMost before later ((here.offset + 1) + 1) = adds_both before names later (here.offset + 1) 1 r.adds adds in
      let enough : (here.offset + 1) + 1 ≤ next.offset + 1 = let q = g.1 in omega arith in
      record {
        cut = r.cut ++ view ∷ [];
        cuts = rw left c;
        file = s.next_file;
        known = s.known;
        stands = stands;
        tokens = pushed;
        adds = adds_fewer before later ((here.offset + 1) + 1) (next.offset + 1) total enough;
        named = named ∙ ap (λ ns. with_name ns (text_named view)) r.named ∙ sym (named-push (names_after before word) r.cut view);
        once = once;
        size = rw (length-drop (piece_len p) rest) (let q = g.2 in let z = r.size in omega arith);
        bounds = bounds;
      }
    where
      adds_fewer : (old new : List (List ℕ)) (m n : ℕ) → AddsAtMost old new m → m ≤ n → AddsAtMost old new n
      adds_fewer old new m n a h = record { more = a.more; behind = a.behind; few = let f = a.few in omega arith }

-- ---- the beginning and the ends

pub adds_more : (old new : List (List ℕ)) (m n : ℕ) → AddsAtMost old new m → m ≤ n → AddsAtMost old new n
adds_more old new m n a h = record { more = a.more; behind = a.behind; few = let f = a.few in omega arith }

module _ (mode : Mode) (number : ℕ) (word bytes : List ℕ) (before : List (List ℕ)) where
  pub reached_first : (here : Here) (names : List (List ℕ)) → slice_get names here.source ≡ Some word → here_of word here ≡ beginning word → names ≡ names_after before word → AddsAtMost before names 1 → HasNoRepeats names → InBounds here → Reached mode number word bytes before bytes here [] names
  reached_first here names known stands named adds once bounds =
      let zero : here.offset ≡ 0 = ap (λ h. h.offset) stands in
      record {
        cut = [];
        cuts = refl;
        file = word;
        known = known;
        stands = stands;
        tokens = tt;
        adds = adds_more before names 1 (here.offset + 1) adds (omega arith);
        named = named;
        once = once;
        size = omega arith;
        bounds = bounds;
      }

  spot_stands : (here : Here) (names : List (List ℕ)) (file : List ℕ) (h : pieces.Here) (count : ℕ) → slice_get names here.source ≡ Some file → here_of file here ≡ h → IsSpot number names count h (spot_of number here count)
  spot_stands here names file h count known stands =
      let f : file ≡ h.file = ap (λ x. x.file) stands in
      record {
        file = refl;
        place = refl;
        source = known ∙ ap Some f;
        line = ap (λ x. x.line) stands;
        col = ap (λ x. x.column) stands;
      }

  pub reached_end : (rest : List ℕ) (here : Here) (kept : List Token) (names : List (List ℕ)) (r : Reached mode number word bytes before rest here kept names) → rest ≡ [] →
      IsReading mode word r.cut bytes × Lexes mode number word names r.cut (record { all = kept; end = spot_of number here (length kept) })
  reached_end rest here kept names r none = (
    rw (← none) (r.cuts),
    record {
      tokens = r.tokens;
      end = spot_stands here names r.file (behind_all (beginning word) r.cut) (length kept) r.known r.stands;
    },
  )

  pub reached_fault : (rest : List ℕ) (here : Here) (kept : List Token) (names : List (List ℕ)) (fault : Fault) (r : Reached mode number word bytes before rest here kept names) → rest ≢ [] → cut mode here.first rest ≡ None → fault ≡ fault_at mode here.first rest →
      IsFault mode number word names bytes fault (spot_of number here (length kept))
  reached_fault rest here kept names fault r some none kind =
      let first : here.first ≡ (behind_all (beginning word) r.cut).first = ap (λ h. h.first) r.stands in
      let count = tokens_count number names 0 (lexemes mode (beginning word) r.cut) kept r.tokens in
      record {
        pieces = r.cut;
        faulty = faulty mode word r.cut bytes rest fault r.cuts (rw (← first) none) some (rw (← first) kind);
        there = rw count (spot_stands here names r.file (behind_all (beginning word) r.cut) (length kept) r.known r.stands);
      }

  -- how many names there are, and how many tokens
  pub reached_names : (rest : List ℕ) (here : Here) (kept : List Token) (names : List (List ℕ)) → Reached mode number word bytes before rest here kept names → AddsAtMost before names (length bytes + 1)
  reached_names rest here kept names r = adds_more before names (here.offset + 1) (length bytes + 1) r.adds (let z = r.size in omega arith)

-- the lexer's fault, by its kind
pub refused : (mode : Mode) (number : ℕ) (word : List ℕ) (names : List (List ℕ)) (bytes : List ℕ) (fault : Fault) (spot : Spot) → IsFault mode number word names bytes fault spot → Refuses mode number word names bytes (fault_there fault spot)
refused mode number word names bytes BadByte spot f = f
refused mode number word names bytes OpenText spot f = f
refused mode number word names bytes BadNumber spot f = f
refused mode number word names bytes BadMarker spot f = f

-- a fault and a reading aren't had together
pub unread : (mode : Mode) (number : ℕ) (word : List ℕ) (names : List (List ℕ)) (bytes : List ℕ) (fault : Fault) (spot : Spot) (ps : List pieces.Piece) → IsFault mode number word names bytes fault spot → IsReading mode word ps bytes → ⊥
unread mode number word names bytes fault spot ps f r = no_reading mode word f.pieces ps bytes fault f.faulty r

-- the tokens are those of each reading
pub same_tokens : (mode : Mode) (number : ℕ) (word : List ℕ) (names : List (List ℕ)) (bytes : List ℕ) (list : TokenList) (ps qs : List pieces.Piece) → IsReading mode word ps bytes → IsReading mode word qs bytes → Lexes mode number word names ps list → Lexes mode number word names qs list
same_tokens mode number word names bytes list ps qs r s l = subst (λ x. Lexes mode number word names x list) (one_reading mode (beginning word) ps qs bytes r s) l

pub some_left : (rest : List ℕ) → 0 < length rest → rest ≢ []
some_left rest h e = let z : length rest ≡ 0 = ap length e in absurd (omega arith)

-- the names are those of each reading
pub same_names : (mode : Mode) (word bytes : List ℕ) (before names : List (List ℕ)) (ps qs : List pieces.Piece) → IsReading mode word ps bytes → IsReading mode word qs bytes → names ≡ named_by before ps → names ≡ named_by before qs
same_names mode word bytes before names ps qs r s n = n ∙ ap (named_by before) (one_reading mode (beginning word) ps qs bytes r s)

-- the list that was made of these tokens and this end
pub made_list : (mode : Mode) (number : ℕ) (word : List ℕ) (names : List (List ℕ)) (ps : List pieces.Piece) (list : TokenList) (kept : List Token) (end : Spot) → list.all ≡ kept → list.end ≡ end → Lexes mode number word names ps (record { all = kept; end = end }) → Lexes mode number word names ps list
made_list mode number word names ps list kept end a e l = record {
  tokens = rw a (l.tokens);
  end = rw (a, e) (l.end);
}

-- the fault that was found is the one fault
pub exactly : (mode : Mode) (number : ℕ) (word : List ℕ) (names : List (List ℕ)) (bytes : List ℕ) (fault kind : Fault) (spot : Spot) (ps : List pieces.Piece) → IsFault mode number word names bytes fault spot → IsFaulty mode word ps bytes kind → IsThere mode number word names ps kind (fault_there fault spot)
exactly mode number word names bytes fault kind spot ps f g =
    let s = one_fault mode word f.pieces ps bytes fault kind f.faulty g in
    let there : IsSpot number names (length (lexemes mode (beginning word) ps)) (behind_all (beginning word) ps) spot = subst (λ x. IsSpot number names (length (lexemes mode (beginning word) x)) (behind_all (beginning word) x) spot) s.0 f.there in
    (spot, ap (λ x. fault_there x spot) s.1, there)
