-- Bytes have at most one list of tokens, where the names before are given.
use Rattle.std.proofs.Common.{◌≡◌, ℕ, ◌+◌, List, [], ◌∷◌, length, refl, sym, ap, ◌∙◌, subst}
use Rattle.mx_base.specs.Names.{names_after, HasNoRepeats}
use Rattle.mx_base.proofs.NameLaws.{one_number}
use Rattle.c_tree.specs.declared.place.Place.{Place}
use Rattle.c_tree.specs.declared.token.Token.{Token}
use Rattle.c_tree.specs.declared.token.TokenKind.{TokenKind}
use Rattle.c_lexer.specs.declared.c_reading.mode.Mode.{Mode}
use Rattle.c_lexer.specs.CReading.Pieces.{Piece, Here, beginning, behind_all}
use Rattle.c_lexer.specs.CReading.Reading.{Lexeme, lexemes, IsReading}
use Rattle.c_lexer.proofs.CReading.Readings.{one_reading}
use Rattle.c_lexer.specs.Naming.{named_by}
use Rattle.c_lexer.specs.Tokens.{TokenList, IsToken, AreTokens, IsSpot, Lexes}
use Rattle.c_lexer.specs.declared.fault.Spot.{Spot}
use Rattle.request_files.specs.Lexed.{AreTokensOf}
use Rattle.request_files.proofs.Unique.NamesStay.{distinct_after, distinct_named}

same_place : (p q : Place) → p.file ≡ q.file → p.token ≡ q.token → p ≡ q
same_place p q f t = ap (λ (x : ℕ). record p { file = x }) f ∙ ap (λ (x : ℕ). record q { token = x }) t

token_with : TokenKind → ℕ → ℕ → ℕ → ℕ → ℕ → ℕ → Place → Token
token_with k n s l i c f p = record { kind = k; name = n; start = s; len = l; line = i; col = c; source = f; place = p }

same_fields : (t u : Token) → t.kind ≡ u.kind → t.name ≡ u.name → t.start ≡ u.start → t.len ≡ u.len → t.line ≡ u.line → t.col ≡ u.col → t.source ≡ u.source → t.place ≡ u.place → t ≡ u
same_fields t u k n s l i c f p =
    ap (λ (x : TokenKind). record t { kind = x }) k
    ∙ ap (λ (x : ℕ). record t { kind = u.kind; name = x }) n
    ∙ ap (λ (x : ℕ). record t { kind = u.kind; name = u.name; start = x }) s
    ∙ ap (λ (x : ℕ). record t { kind = u.kind; name = u.name; start = u.start; len = x }) l
    ∙ ap (λ (x : ℕ). record t { kind = u.kind; name = u.name; start = u.start; len = u.len; line = x }) i
    ∙ ap (λ (x : ℕ). record t { kind = u.kind; name = u.name; start = u.start; len = u.len; line = u.line; col = x }) c
    ∙ ap (λ (x : ℕ). record t { kind = u.kind; name = u.name; start = u.start; len = u.len; line = u.line; col = u.col; source = x }) f
    ∙ ap (λ (x : Place). record u { place = x }) p

module _ (number : ℕ) (names : List (List ℕ)) (once : HasNoRepeats names) where
  one_token : (before : ℕ) (l : Lexeme) (t u : Token) → IsToken number names before l t → IsToken number names before l u → t ≡ u
  one_token before l t u a b = same_fields t u (a.kind ∙ sym b.kind) (one_number names l.spelling t.name u.name once a.name b.name) (a.start ∙ sym b.start) (a.len ∙ sym b.len) (a.line ∙ sym b.line) (a.col ∙ sym b.col)
      (one_number names l.here.file t.source u.source once a.source b.source) (same_place t.place u.place (a.file ∙ sym b.file) (a.place ∙ sym b.place))

  one_row : (before : ℕ) (ls : List Lexeme) (ts us : List Token) → AreTokens number names before ls ts → AreTokens number names before ls us → ts ≡ us
  one_row before [] [] [] a b = refl
  one_row before [] [] (u ∷ us) a b = absurd b
  one_row before [] (t ∷ ts) us a b = absurd a
  one_row before (l ∷ ls) [] us a b = absurd a
  one_row before (l ∷ ls) (t ∷ ts) [] a b = absurd b
  one_row before (l ∷ ls) (t ∷ ts) (u ∷ us) a b =
      let e = one_token before l t u a.0 b.0 in
      let f = one_row (before + 1) ls ts us a.1 b.1 in
      ap (λ x. x ∷ ts) e ∙ ap (λ xs. u ∷ xs) f

  same_spot : (s z : Spot) → s.place ≡ z.place → s.source ≡ z.source → s.line ≡ z.line → s.col ≡ z.col → s ≡ z
  same_spot s z p f l c =
      ap (λ (x : Place). record s { place = x }) p
      ∙ ap (λ (x : ℕ). record s { place = z.place; source = x }) f
      ∙ ap (λ (x : ℕ). record s { place = z.place; source = z.source; line = x }) l
      ∙ ap (λ (x : ℕ). record z { col = x }) c

  one_spot : (before : ℕ) (h : Here) (s z : Spot) → IsSpot number names before h s → IsSpot number names before h z → s ≡ z
  one_spot before h s z a b = same_spot s z (same_place s.place z.place (a.file ∙ sym b.file) (a.place ∙ sym b.place)) (one_number names h.file s.source z.source once a.source b.source) (a.line ∙ sym b.line) (a.col ∙ sym b.col)

  one_lexed : (mode : Mode) (word : List ℕ) (ps : List Piece) (a b : TokenList) → Lexes mode number word names ps a → Lexes mode number word names ps b → a ≡ b
  one_lexed mode word ps a b x y =
      let e = one_row 0 (lexemes mode (beginning word) ps) a.all b.all x.tokens y.tokens in
      let there : IsSpot number names (length b.all) (behind_all (beginning word) ps) a.end = subst (λ ts. IsSpot number names (length ts) (behind_all (beginning word) ps) a.end) e x.end in
      let f = one_spot (length b.all) (behind_all (beginning word) ps) a.end b.end there y.end in
      ap (λ (ts : List Token). record a { all = ts }) e ∙ ap (λ (s : Spot). record b { end = s }) f

-- the names behind a file are without repeats, as those before it
pub names_once : (mode : Mode) (number : ℕ) (word : List ℕ) (before names : List (List ℕ)) (bytes : List ℕ) (list : TokenList) → HasNoRepeats before → AreTokensOf mode number word before names bytes list → HasNoRepeats names
names_once mode number word before names bytes list once a = subst HasNoRepeats (sym a.named) (distinct_named (names_after before word) a.pieces (distinct_after before word once))

pub one_reading_of : (mode : Mode) (word bytes : List ℕ) (ps qs : List Piece) → IsReading mode word ps bytes → IsReading mode word qs bytes → ps ≡ qs
one_reading_of mode word bytes ps qs a b = one_reading mode (beginning word) ps qs bytes a b

-- bytes have one list of tokens, and the names behind them are given
pub one_list : (mode : Mode) (number : ℕ) (word : List ℕ) (before names more : List (List ℕ)) (bytes : List ℕ) (list other : TokenList) → HasNoRepeats before
    → AreTokensOf mode number word before names bytes list → AreTokensOf mode number word before more bytes other → (names ≡ more) × (list ≡ other)
one_list mode number word before names more bytes list other once a b =
    let p = one_reading_of mode word bytes a.pieces b.pieces a.reading b.reading in
    let n : names ≡ more = a.named ∙ ap (named_by (names_after before word)) p ∙ sym b.named in
    let x : Lexes mode number word names b.pieces list = subst (λ ps. Lexes mode number word names ps list) p a.lexes in
    let y : Lexes mode number word more b.pieces list = subst (λ ns. Lexes mode number word ns b.pieces list) n x in
    (n, one_lexed number more (names_once mode number word before more bytes other once b) mode word b.pieces list other y b.lexes)
