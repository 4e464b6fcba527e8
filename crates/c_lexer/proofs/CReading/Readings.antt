-- Bytes have at most one reading, and where nothing can be cut off stands their one fault.
use Rattle.std.proofs.Common.{◌≡◌, ◌≢◌, ℕ, ◌≤◌, ◌<◌, Bool, List, [], ◌∷◌, ◌++◌, length, None, Some, refl, ap, sym, ◌∙◌, subst, arith, append_assoc, length-append}
use Rattle.std.proofs.lemmas.List.{nil_from_length, append-nil, append_cancel_left}
use Rattle.c_lexer.specs.declared.c_reading.fault.Fault.{Fault}
use Rattle.c_lexer.specs.declared.c_reading.mode.Mode.{Mode}
use Rattle.c_lexer.specs.CReading.Pieces.{Piece, Space, Comment, LineComment, MarkerLine, Spelling, bytes_of, Here, beginning, behind, behind_all}
use Rattle.c_lexer.specs.CReading.Reading.{IsNext, Cuts, IsReading, lexeme_at, lexemes, fault_at, IsFaulty}
use Rattle.c_lexer.specs.Ways.Cutting.{cut}
use Rattle.c_lexer.proofs.CReading.OnePiece.{cut-complete}
use Rattle.c_lexer.proofs.CReading.Longest.{empty_no_spelling}

some_is : {A : Type 0} (x y : A) → Some x ≡ Some y → x ≡ y
some_is x y h = cc

nothing_cut : (mode : Mode) (first : Bool) (p : Piece) → cut mode first [] ≡ Some p → ⊥
unfolding cut
nothing_cut mode first p h = cc

-- two pieces that may be cut off the same bytes are one
same_piece : (mode : Mode) (first : Bool) (p q : Piece) (bs r s : List ℕ) → bs ≡ bytes_of p ++ r → bs ≡ bytes_of q ++ s → IsNext mode first p r → IsNext mode first q s → p ≡ q
same_piece mode first p q bs r s e f i j =
    let x : cut mode first bs ≡ Some p = ap (cut mode first) e ∙ cut-complete mode first p r i in
    let y : cut mode first bs ≡ Some q = ap (cut mode first) f ∙ cut-complete mode first q s j in
    some_is p q (sym x ∙ y)

same_rest : (p q : Piece) (bs r s : List ℕ) → bs ≡ bytes_of p ++ r → bs ≡ bytes_of q ++ s → p ≡ q → r ≡ s
same_rest p q bs r s e f k = append_cancel_left (bytes_of p) r s (sym e ∙ f ∙ ap (λ x. bytes_of x ++ s) (sym k))

-- a piece has bytes
piece_some : (mode : Mode) (first : Bool) (p : Piece) (bs r : List ℕ) → bs ≡ [] → bs ≡ bytes_of p ++ r → IsNext mode first p r → ⊥
piece_some mode first p bs r n e i = nothing_cut mode first p (ap (cut mode first) (sym n ∙ e) ∙ cut-complete mode first p r i)

-- what is left is no longer than the bytes
rest_le : (mode : Mode) (h : Here) (ps : List Piece) (bs rest : List ℕ) → Cuts mode h ps bs rest → length rest ≤ length bs
rest_le mode h [] bs rest c = omega (arith, ap length c)
rest_le mode h (p ∷ ps) bs rest c =
    let t = rest_le mode (behind h p) ps c.0 rest c.3 in
    omega (arith, ap length c.1, length-append (bytes_of p) c.0)

-- bytes have at most one reading
pub one_reading : (mode : Mode) (h : Here) (ps qs : List Piece) (bs : List ℕ) → Cuts mode h ps bs [] → Cuts mode h qs bs [] → ps ≡ qs
one_reading mode h [] [] bs c d = refl
one_reading mode h [] (q ∷ qs) bs c d = absurd (piece_some mode h.first q bs d.0 c d.1 d.2)
one_reading mode h (p ∷ ps) [] bs c d = absurd (piece_some mode h.first p bs c.0 d c.1 c.2)
one_reading mode h (p ∷ ps) (q ∷ qs) bs c d =
    let e = same_piece mode h.first p q bs c.0 d.0 c.1 d.1 c.2 d.2 in
    let r = same_rest p q bs c.0 d.0 c.1 d.1 e in
    let D : Piece → List ℕ → Type 0 = λ x l. Cuts mode (behind h x) qs l [] in
    let k : Cuts mode (behind h p) qs c.0 [] = subst (λ x. D x c.0) (sym e) (subst (λ l. D q l) (sym r) d.3) in
    let t = one_reading mode (behind h p) ps qs c.0 c.3 k in
    cc

-- where nothing can be cut off, no other pieces leave less
pub least_rest : (mode : Mode) (h : Here) (ps qs : List Piece) (bs rest left : List ℕ) → Cuts mode h ps bs rest → cut mode (behind_all h ps).first rest ≡ None → Cuts mode h qs bs left → length rest ≤ length left
least_rest mode h ps [] bs rest left c n d =
    let t = rest_le mode h ps bs rest c in omega (arith, ap length d)
least_rest mode h [] (q ∷ qs) bs rest left c n d =
    let x : cut mode h.first rest ≡ Some q = ap (cut mode h.first) (sym c ∙ d.1) ∙ cut-complete mode h.first q d.0 d.2 in
    absurd (none q (sym n ∙ x))
  where
    none : (q : Piece) → None ≡ Some q → ⊥
    none q k = cc
least_rest mode h (p ∷ ps) (q ∷ qs) bs rest left c n d =
    let e = same_piece mode h.first p q bs c.0 d.0 c.1 d.1 c.2 d.2 in
    let r = same_rest p q bs c.0 d.0 c.1 d.1 e in
    let D : Piece → List ℕ → Type 0 = λ x l. Cuts mode (behind h x) qs l left in
    let k : Cuts mode (behind h p) qs c.0 left = subst (λ x. D x c.0) (sym e) (subst (λ l. D q l) (sym r) d.3) in
    least_rest mode (behind h p) ps qs c.0 rest left c.3 n k

-- the fault of bytes, where nothing can be cut off the rest
pub faulty : (mode : Mode) (file : List ℕ) (ps : List Piece) (bs rest : List ℕ) (fault : Fault) → Cuts mode (beginning file) ps bs rest → cut mode (behind_all (beginning file) ps).first rest ≡ None → rest ≢ [] → fault ≡ fault_at mode (behind_all (beginning file) ps).first rest → IsFaulty mode file ps bs fault
faulty mode file ps bs rest fault c n l k = record {
  rest = rest;
  cut = c;
  longest = λ others left d. least_rest mode (beginning file) ps others bs rest left c n d;
  left = l;
  kind = k;
}

-- bytes with a fault have no reading
pub no_reading : (mode : Mode) (file : List ℕ) (ps qs : List Piece) (bs : List ℕ) (fault : Fault) → IsFaulty mode file ps bs fault → IsReading mode file qs bs → ⊥
no_reading mode file ps qs bs fault f r =
    let n : length f.rest ≤ 0 = f.longest qs [] r in
    f.left (nil_from_length f.rest (omega arith))

-- ---- bytes have at most one fault

-- a piece has bytes
some_bytes : (mode : Mode) (first : Bool) (p : Piece) (r : List ℕ) → IsNext mode first p r → 0 < length (bytes_of p)
some_bytes mode first (Space b) r i = omega arith
some_bytes mode first (Comment []) r i = cc
some_bytes mode first (Comment (c ∷ cs)) r i = omega arith
some_bytes mode first (LineComment text) r i = omega arith
some_bytes mode first (MarkerLine text ended) r i = omega arith
some_bytes mode first (Spelling []) r i = absurd (empty_no_spelling mode i.2.spelling)
some_bytes mode first (Spelling (c ∷ cs)) r i = omega arith

-- a piece more leaves less
less : (mode : Mode) (h : Here) (p : Piece) (ps : List Piece) (bs left : List ℕ) → Cuts mode h (p ∷ ps) bs left → length left < length bs
less mode h p ps bs left c =
    let s = some_bytes mode h.first p c.0 c.2 in
    let t = rest_le mode (behind h p) ps c.0 left c.3 in
    omega (arith, ap length c.1, length-append (bytes_of p) c.0)

-- what leaves as much is cut alike
same_cut : (mode : Mode) (h : Here) (ps qs : List Piece) (bs rest left : List ℕ) → Cuts mode h ps bs rest → Cuts mode h qs bs left → length rest ≡ length left → (ps ≡ qs) × (rest ≡ left)
same_cut mode h [] [] bs rest left c d n = (refl, sym c ∙ d)
same_cut mode h [] (q ∷ qs) bs rest left c d n = let l = less mode h q qs bs left d in let e = ap length c in absurd (omega arith)
same_cut mode h (p ∷ ps) [] bs rest left c d n = let l = less mode h p ps bs rest c in let e = ap length d in absurd (omega arith)
same_cut mode h (p ∷ ps) (q ∷ qs) bs rest left c d n =
    let e = same_piece mode h.first p q bs c.0 d.0 c.1 d.1 c.2 d.2 in
    let r = same_rest p q bs c.0 d.0 c.1 d.1 e in
    let D : Piece → List ℕ → Type 0 = λ x l. Cuts mode (behind h x) qs l left in
    let k : Cuts mode (behind h p) qs c.0 left = subst (λ x. D x c.0) (sym e) (subst (λ l. D q l) (sym r) d.3) in
    let t = same_cut mode (behind h p) ps qs c.0 rest left c.3 k n in
    let f : p ∷ ps ≡ q ∷ qs = let g = t.0 in cc in
    (f, t.1)

-- bytes have at most one fault
pub one_fault : (mode : Mode) (file : List ℕ) (ps qs : List Piece) (bs : List ℕ) (fault other : Fault) → IsFaulty mode file ps bs fault → IsFaulty mode file qs bs other → (ps ≡ qs) × (fault ≡ other)
one_fault mode file ps qs bs fault other f g =
    let a = f.longest qs g.rest g.cut in
    let b = g.longest ps f.rest f.cut in
    let s = same_cut mode (beginning file) ps qs bs f.rest g.rest f.cut g.cut (omega arith) in
    let k : fault_at mode (behind_all (beginning file) ps).first f.rest ≡ fault_at mode (behind_all (beginning file) qs).first g.rest = ap (λ x. fault_at mode (behind_all (beginning file) x).first f.rest) s.0 ∙ ap (fault_at mode (behind_all (beginning file) qs).first) s.1 in
    (s.0, f.kind ∙ k ∙ sym g.kind)

-- ---- one piece more

pub cuts-push : (mode : Mode) (h : Here) (ps : List Piece) (p : Piece) (bs rest others : List ℕ) → Cuts mode h ps bs rest → rest ≡ bytes_of p ++ others → IsNext mode (behind_all h ps).first p others → Cuts mode h (ps ++ p ∷ []) bs others
cuts-push mode h [] p bs rest others c e i = (others, c ∙ e, i, refl)
cuts-push mode h (q ∷ qs) p bs rest others c e i = (c.0, c.1, c.2, cuts-push mode (behind h q) qs p c.0 rest others c.3 e i)

pub behind-push : (h : Here) (ps : List Piece) (p : Piece) → behind_all h (ps ++ p ∷ []) ≡ behind (behind_all h ps) p
behind-push h [] p = refl
behind-push h (q ∷ qs) p = behind-push (behind h q) qs p

pub lexemes-push : (mode : Mode) (h : Here) (ps : List Piece) (p : Piece) → lexemes mode h (ps ++ p ∷ []) ≡ lexemes mode h ps ++ lexeme_at mode (behind_all h ps) p
lexemes-push mode h [] p = append-nil (lexeme_at mode h p)
lexemes-push mode h (q ∷ qs) p = ap (λ l. lexeme_at mode h q ++ l) (lexemes-push mode (behind h q) qs p) ∙ sym (append_assoc (lexeme_at mode h q) (lexemes mode (behind h q) qs) (lexeme_at mode (behind_all (behind h q) qs) p))
