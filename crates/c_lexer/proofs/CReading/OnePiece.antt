-- A piece may be cut off bytes exactly where the reader over lists cuts it off.
use Rattle.std.proofs.Common.{◌≡◌, ℕ, suc, zero, ◌+◌, ◌<◌, Bool, true, false, cond, not, ◌&&◌, ◌||◌, eqb, List, [], ◌∷◌, ◌++◌, length, take, drop, Option, None, Some, is_some, option_map, inl, inr, refl, ap, sym, ◌∙◌, subst, arith, append_assoc}
use Rattle.std.specs.List.{prefix_len, list_all}
use Rattle.std.proofs.lemmas.List.{take_at, drop_at, take-append-drop, append-nil}
use Rattle.std.proofs.lemmas.Bool.Decides.{nat_tests}
use Rattle.c_lexer.specs.declared.c_reading.mode.Mode.{Mode}
use Rattle.c_lexer.specs.declared.c_reading.mode.Mode.TheVariants.{C, Metal}
use Rattle.c_lexer.specs.CReading.Bytes.{is_digit, is_letter, is_quote, is_blank, is_within_line, begins}
use Rattle.c_lexer.specs.CReading.Words.{find_text}
use Rattle.c_lexer.specs.CReading.Punctuators.{punctuator_of, punctuators, singles, pairs, triples}
use Rattle.c_lexer.specs.CReading.Spellings.{is_word, is_number, is_literal, is_spelling, kind_of}
use Rattle.c_lexer.specs.CReading.Markers.{marker_of}
use Rattle.c_lexer.specs.CReading.Pieces.{Piece, Space, Comment, LineComment, MarkerLine, Spelling, bytes_of}
use Rattle.c_lexer.specs.CReading.Reading.{begins_comment, begins_line_comment, ends_comment, is_comment, is_one_line, at_line_end, has_markers, IsLongest, IsNext}
use Rattle.c_lexer.specs.Ways.Cutting.{spelling_len, spelling_at, closing, comment_at, line_comment_at, marker_line, marker_at, cut}
use Rattle.c_lexer.proofs.CReading.Tests.{cases, both, either, taken, passed, same, not_true, not_zero, some_is}
use Rattle.c_lexer.proofs.CReading.Runs.{prefix_passes, prefix_of_passes}
use Rattle.c_lexer.proofs.CReading.Comments.{closing-append, closing-front}
use Rattle.c_lexer.proofs.CReading.ByteFacts.{number_first}
use Rattle.c_lexer.proofs.CReading.Classes.{passes_of_length, word_first, number_begins, literal-there}
use Rattle.c_lexer.proofs.CReading.Longest.{literal_first, empty_no_spelling, longest_len, len_longest}

-- ---- the first byte of a spelling is neither blank nor `#`

apart : ℕ → Bool
apart c = not (is_blank c) && not (eqb c 35)

apart_first : List ℕ → Bool
apart_first [] = false
apart_first (c ∷ cs) = apart c

letter_apart : (c : ℕ) → is_letter c ≡ true → apart c ≡ true
unfolding apart is_letter is_blank
letter_apart c h = grind (arith, nat_tests)

digit_apart : (c : ℕ) → is_digit c ≡ true → apart c ≡ true
unfolding apart is_digit is_blank
digit_apart c h = grind (arith, nat_tests)

quote_apart : (c : ℕ) → is_quote c ≡ true → apart c ≡ true
unfolding apart is_quote is_blank
quote_apart c h = grind (arith, nat_tests)

at_apart : (c d : ℕ) → c ≡ d → apart d ≡ true → apart c ≡ true
at_apart c d e h = ap apart e ∙ h

dot_apart : apart 46 ≡ true
unfolding apart is_blank
dot_apart = refl

l_apart : apart 76 ≡ true
unfolding apart is_blank
l_apart = refl

all_apart : (mode : Mode) → list_all (λ n. list_all (λ e. apart_first e.0) (punctuators mode n)) (1 ∷ 2 ∷ 3 ∷ []) ≡ true
unfolding apart_first apart punctuators singles pairs triples is_blank
all_apart C = refl
all_apart Metal = refl

found_some : {A : Type 0} (o : Option A) → is_some o ≡ true → (x : A) × (o ≡ Some x)
found_some None h = cc
found_some (Some x) h = (x, refl)

punctuator_apart : (mode : Mode) (s : List ℕ) → is_some (punctuator_of mode s) ≡ true → apart_first s ≡ true
unfolding punctuator_of
punctuator_apart mode s h = let k = found_some (find_text s (punctuators mode (length s))) h in passes_of_length mode apart_first s (length s) k.0 (all_apart mode) k.1

number_apart : (c : ℕ) (cs : List ℕ) → is_number (c ∷ cs) ≡ true → apart c ≡ true
number_apart c cs h = elim (number_first c cs (number_begins c cs h)) [
  | inl d ↦ digit_apart c d
  | inr t ↦ at_apart c 46 t.0 dot_apart
]

literal_apart : (c : ℕ) (cs : List ℕ) → is_literal (c ∷ cs) ≡ true → apart c ≡ true
literal_apart c cs h = elim (literal_first c (cs ++ []) (length (c ∷ cs)) (literal-there (c ∷ cs) [] h)) [
  | inl t ↦ at_apart c 76 t.0 l_apart
  | inr q ↦ quote_apart c q
]

spelling_apart : (mode : Mode) (c : ℕ) (cs : List ℕ) → is_spelling mode (c ∷ cs) ≡ true → (is_blank c ≡ false) × (eqb c 35 ≡ false)
unfolding is_spelling apart apart_first
spelling_apart mode c cs h = by (elim (either (is_word (c ∷ cs)) (is_number (c ∷ cs) || (is_literal (c ∷ cs) || is_some (punctuator_of mode (c ∷ cs)))) h) [
  | inl w ↦ letter_apart c (word_first c cs w)
  | inr t ↦ elim (either (is_number (c ∷ cs)) (is_literal (c ∷ cs) || is_some (punctuator_of mode (c ∷ cs))) t) [
    | inl n ↦ number_apart c cs n
    | inr u ↦ elim (either (is_literal (c ∷ cs)) (is_some (punctuator_of mode (c ∷ cs))) u) [
      | inl l ↦ literal_apart c cs l
      | inr p ↦ punctuator_apart mode (c ∷ cs) p
    ]
  ]
])
  where
    by : (not (is_blank c) && not (eqb c 35)) ≡ true → (is_blank c ≡ false) × (eqb c 35 ≡ false)
    by k = let b = both (not (is_blank c)) (not (eqb c 35)) k in (not_true (is_blank c) b.0, not_true (eqb c 35) b.1)

slash_no_blank : is_blank 47 ≡ false
unfolding is_blank
slash_no_blank = refl

hash_no_blank : is_blank 35 ≡ false
unfolding is_blank
hash_no_blank = refl

-- ---- complete: a piece that may be cut off is cut off

line_ends : (rest : List ℕ) → at_line_end rest ≡ true → prefix_len is_within_line rest ≡ 0
unfolding is_within_line
line_ends [] h = refl
line_ends (c ∷ cs) h = rw h refl

whole_line : (text rest : List ℕ) → is_one_line text ≡ true → at_line_end rest ≡ true → prefix_len is_within_line (text ++ rest) ≡ length text
whole_line text rest o e = prefix_of_passes is_within_line text rest o ∙ (rw (line_ends rest e) (omega arith))

complete_comment : (mode : Mode) (first : Bool) (text rest : List ℕ) → is_comment text ≡ true → cut mode first (text ++ rest) ≡ Some (Comment text)
unfolding cut comment_at
complete_comment mode first [] rest h = cc
complete_comment mode first (a ∷ []) rest h = cc
complete_comment mode first (a ∷ b ∷ cs) rest h =
    let p = both (eqb a 47) (eqb b 42 && ends_comment cs) h in
    let q = both (eqb b 42) (ends_comment cs) p.1 in
    let blank : is_blank a ≡ false = ap is_blank (same a 47 p.0) ∙ slash_no_blank in
    let size : length (a ∷ b ∷ cs) ≡ length cs + 2 = omega arith in
    let front : take (length cs + 2) (a ∷ b ∷ (cs ++ rest)) ≡ a ∷ b ∷ cs = take_at (a ∷ b ∷ cs) rest (length cs + 2) size in
    rw (blank, p.0, q.0, closing-append cs rest q.1) (ap (λ l. Some (Comment l)) front)

complete_line_comment : (mode : Mode) (first : Bool) (text rest : List ℕ) → is_one_line text ≡ true → at_line_end rest ≡ true → cut mode first (47 ∷ 47 ∷ (text ++ rest)) ≡ Some (LineComment text)
unfolding cut line_comment_at
complete_line_comment mode first text rest o e = rw (slash_no_blank, whole_line text rest o e) (ap (λ l. Some (LineComment l)) (take_at text rest (length text) refl))

marker_cut : (text rest : List ℕ) (n : ℕ) → is_some (marker_of text) ≡ true → length text ≡ n → marker_line (text ++ rest) n ≡ Some (MarkerLine text (begins 10 rest))
marker_cut text rest n m s = rw (take_at text rest n s, drop_at text rest n s, m) refl

complete_marker : (mode : Mode) (text rest : List ℕ) → has_markers mode ≡ true → is_one_line text ≡ true → at_line_end rest ≡ true → is_some (marker_of text) ≡ true → cut mode true (35 ∷ (text ++ rest)) ≡ Some (MarkerLine text (begins 10 rest))
unfolding cut marker_at
complete_marker mode text rest c o e m = rw (hash_no_blank, c, whole_line text rest o e) (marker_cut text rest (length text) m refl)

ended_line : (text rest : List ℕ) (ended : Bool) → (ended ≡ false → rest ≡ []) → (text ++ cond ended (10 ∷ []) []) ++ rest ≡ text ++ cond ended (10 ∷ rest) []
ended_line text rest true h = append_assoc text (10 ∷ []) rest
ended_line text rest false h = rw (h refl) (append-nil (text ++ []))

complete_spelling : (mode : Mode) (first : Bool) (s rest : List ℕ) → begins_comment (s ++ rest) ≡ false → begins_line_comment (s ++ rest) ≡ false → IsLongest mode s rest → is_some (kind_of mode s) ≡ true → cut mode first (s ++ rest) ≡ Some (Spelling s)
unfolding cut spelling_at
complete_spelling mode first [] rest b l i k = absurd (empty_no_spelling mode i.spelling)
complete_spelling mode first (c ∷ cs) rest b l i k =
    let a = spelling_apart mode c cs i.spelling in
    let n = longest_len mode (c ∷ cs) rest i in
    let t : take (length (c ∷ cs)) (c ∷ (cs ++ rest)) ≡ c ∷ cs = take_at (c ∷ cs) rest (length (c ∷ cs)) refl in
    rw (a.0, b, l, a.1, no_mark (has_markers mode) first, n) (rw (not_zero (length cs), t, k) refl)
  where
    no_mark : (a b : Bool) → (a && (b && false)) ≡ false
    no_mark true true = refl
    no_mark true false = refl
    no_mark false b = refl

pub cut-complete : (mode : Mode) (first : Bool) (p : Piece) (rest : List ℕ) → IsNext mode first p rest → cut mode first (bytes_of p ++ rest) ≡ Some p
unfolding cut
cut-complete mode first (Space b) rest i = rw i refl
cut-complete mode first (Comment text) rest i = complete_comment mode first text rest i
cut-complete mode first (LineComment text) rest i = complete_line_comment mode first text rest i.0 i.1
cut-complete mode first (MarkerLine text ended) rest i = marker ended i.1 i.4
  where
    marker : (ended : Bool) → first ≡ true → (ended ≡ false → rest ≡ []) → cut mode first (35 ∷ ((text ++ cond ended (10 ∷ []) []) ++ rest)) ≡ Some (MarkerLine text ended)
    marker true f e = rw (f, ended_line text rest true e) (complete_marker mode text (10 ∷ rest) i.0 i.2 refl i.3)
    marker false f e = rw (f, ended_line text rest false e) (complete_marker mode text [] i.0 i.2 refl i.3)
cut-complete mode first (Spelling s) rest i = complete_spelling mode first s rest i.0 i.1 i.2 i.3

-- ---- sound: what is cut off may be cut off

-- a piece in front, and what is left
pub record Front (mode : Mode) (first : Bool) (bs : List ℕ) (p : Piece) : Type 0 where
  pub rest : List ℕ
  pub joined : bs ≡ bytes_of p ++ rest
  pub next : IsNext mode first p rest

sound_comment : (mode : Mode) (first : Bool) (c : ℕ) (cs : List ℕ) (p : Piece) → begins_comment (c ∷ cs) ≡ true → comment_at (c ∷ cs) ≡ Some p → Front mode first (c ∷ cs) p
unfolding comment_at
sound_comment mode first c [] p b h = cc (both (eqb c 47) false b).1
sound_comment mode first c (d ∷ ds) p b h =
    let q = both (eqb c 47) (eqb d 42) b in
    by (closing ds) refl h q.0 q.1
  where
    by : (o : Option ℕ) → closing ds ≡ o → Path (Option Piece) (option_map (λ n. Comment (take (n + 2) (c ∷ d ∷ ds))) o) (Some p) → eqb c 47 ≡ true → eqb d 42 ≡ true → Front mode first (c ∷ d ∷ ds) p
    by None e k a b = cc
    by (Some n) e k a b =
        let f = closing-front ds n e in
        let size : length (c ∷ d ∷ f.front) ≡ n + 2 = omega (arith, f.size) in
        let whole : c ∷ d ∷ ds ≡ (c ∷ d ∷ f.front) ++ f.back = ap (λ l. c ∷ d ∷ l) f.joined in
        let front : take (n + 2) (c ∷ d ∷ ds) ≡ c ∷ d ∷ f.front = ap (take (n + 2)) whole ∙ take_at (c ∷ d ∷ f.front) f.back (n + 2) size in
        let is : Comment (c ∷ d ∷ f.front) ≡ p = ap Comment (sym front) ∙ some_is (Comment (take (n + 2) (c ∷ d ∷ ds))) p k in
        subst (λ x. Front mode first (c ∷ d ∷ ds) x) is (record { rest = f.back; joined = whole; next = rw (a, b) f.ends })

line_rest : (cs : List ℕ) → at_line_end (drop (prefix_len is_within_line cs) cs) ≡ true
unfolding is_within_line
line_rest [] = refl
line_rest (c ∷ cs) = elim (cases (eqb c 10)) as (λ _. at_line_end (drop (prefix_len is_within_line (c ∷ cs)) (c ∷ cs)) ≡ true) [
  | inl e ↦ rw (e, e) refl
  | inr e ↦ rw (e, one_more (prefix_len is_within_line cs)) (line_rest cs)
]
  where
    one_more : (n : ℕ) → 1 + n ≡ suc n
    one_more n = omega arith

sound_line_comment : (mode : Mode) (first : Bool) (c : ℕ) (cs : List ℕ) → begins_line_comment (c ∷ cs) ≡ true → Front mode first (c ∷ cs) (line_comment_at (c ∷ cs))
unfolding line_comment_at
sound_line_comment mode first c [] b = cc (both (eqb c 47) false b).1
sound_line_comment mode first c (d ∷ ds) b =
    let q = both (eqb c 47) (eqb d 47) b in
    let n = prefix_len is_within_line ds in
    let a = same c 47 q.0 in
    let e = same d 47 q.1 in
    let split : ds ≡ take n ds ++ drop n ds = sym (take-append-drop n ds) in
    record {
      rest = drop n ds;
      joined = rw (a, e) (ap (λ l. 47 ∷ 47 ∷ l) split);
      next = (prefix_passes is_within_line ds, line_rest ds);
    }

ending : (rest : List ℕ) → at_line_end rest ≡ true → rest ≡ cond (begins 10 rest) (10 ∷ drop 1 rest) []
ending [] h = refl
ending (c ∷ cs) h = let e = same c 10 h in rw (h, e) refl

no_ending : (rest : List ℕ) → at_line_end rest ≡ true → begins 10 rest ≡ false → rest ≡ []
no_ending [] h k = refl
no_ending (c ∷ cs) h k = cc

sound_marker : (mode : Mode) (first : Bool) (c : ℕ) (cs : List ℕ) (p : Piece) → has_markers mode ≡ true → first ≡ true → eqb c 35 ≡ true → marker_at cs ≡ Some p → Front mode first (c ∷ cs) p
unfolding marker_at
sound_marker mode first c cs p m f h k =
    let n = prefix_len is_within_line cs in
    let text = take n cs in
    let rest = drop n cs in
    let t = taken (is_some (marker_of text)) (Some (MarkerLine text (begins 10 rest))) p k in
    let is : MarkerLine text (begins 10 rest) ≡ p = some_is (MarkerLine text (begins 10 rest)) p t.1 in
    subst (λ x. Front mode first (c ∷ cs) x) is (by text rest (sym (take-append-drop n cs)) (prefix_passes is_within_line cs) (line_rest cs) t.0)
  where
    joined : (text rest : List ℕ) (b : Bool) → text ++ cond b (10 ∷ drop 1 rest) [] ≡ (text ++ cond b (10 ∷ []) []) ++ cond b (drop 1 rest) []
    joined text rest true = sym (append_assoc text (10 ∷ []) (drop 1 rest))
    joined text rest false = sym (append-nil (text ++ []))

    left : (rest : List ℕ) (b : Bool) → (b ≡ false → rest ≡ []) → b ≡ false → cond b (drop 1 rest) [] ≡ []
    left rest true h k = cc
    left rest false h k = refl

    by : (text rest : List ℕ) → cs ≡ text ++ rest → is_one_line text ≡ true → at_line_end rest ≡ true → is_some (marker_of text) ≡ true → Front mode first (c ∷ cs) (MarkerLine text (begins 10 rest))
    by text rest s o e g =
        let b = begins 10 rest in
        let d = same c 35 h in
        let r = ending rest e in
        let whole : cs ≡ (text ++ cond b (10 ∷ []) []) ++ cond b (drop 1 rest) [] = s ∙ ap (λ l. text ++ l) r ∙ joined text rest b in
        record {
          rest = cond b (drop 1 rest) [];
          joined = rw d (ap (λ l. 35 ∷ l) whole);
          next = (m, f, o, g, left rest b (no_ending rest e));
        }

sound_spelling : (mode : Mode) (first : Bool) (bs : List ℕ) (p : Piece) → begins_comment bs ≡ false → begins_line_comment bs ≡ false → spelling_at mode bs ≡ Some p → Front mode first bs p
unfolding spelling_at
sound_spelling mode first bs p b l h =
    let n = spelling_len mode bs in
    let z = passed (eqb n 0) _ p h in
    let t = taken (is_some (kind_of mode (take n bs))) (Some (Spelling (take n bs))) p z.1 in
    let i = len_longest mode bs (positive n z.0) in
    let s : take n bs ++ drop n bs ≡ bs = take-append-drop n bs in
    let is : Spelling (take n bs) ≡ p = some_is (Spelling (take n bs)) p t.1 in
    subst (λ x. Front mode first bs x) is (record {
      rest = drop n bs;
      joined = sym s;
      next = (ap begins_comment s ∙ b, ap begins_line_comment s ∙ l, i, t.0);
    })
  where
    positive : (n : ℕ) → eqb n 0 ≡ false → 0 < n
    positive zero k = cc
    positive (suc n) k = omega arith

pub cut-sound : (mode : Mode) (first : Bool) (bs : List ℕ) (p : Piece) → cut mode first bs ≡ Some p → Front mode first bs p
unfolding cut
cut-sound mode first [] p h = cc
cut-sound mode first (c ∷ cs) p h = by (is_blank c) (begins_comment (c ∷ cs)) (begins_line_comment (c ∷ cs)) (has_markers mode) first (eqb c 35) refl refl refl refl refl refl h
  where
    by : (s b l m f k : Bool) → is_blank c ≡ s → begins_comment (c ∷ cs) ≡ b → begins_line_comment (c ∷ cs) ≡ l → has_markers mode ≡ m → first ≡ f → eqb c 35 ≡ k →
        Path (Option Piece) (cond s (Some (Space c)) (cond b (comment_at (c ∷ cs)) (cond l (Some (line_comment_at (c ∷ cs))) (cond (m && (f && k)) (marker_at cs) (spelling_at mode (c ∷ cs)))))) (Some p) →
        Front mode first (c ∷ cs) p
    by true b l m f k e1 e2 e3 e4 e5 e6 h = subst (λ x. Front mode first (c ∷ cs) x) (some_is (Space c) p h) (record { rest = cs; joined = refl; next = e1 })
    by false true l m f k e1 e2 e3 e4 e5 e6 h = sound_comment mode first c cs p e2 h
    by false false true m f k e1 e2 e3 e4 e5 e6 h = subst (λ x. Front mode first (c ∷ cs) x) (some_is (line_comment_at (c ∷ cs)) p h) (sound_line_comment mode first c cs e3)
    by false false false true true true e1 e2 e3 e4 e5 e6 h = sound_marker mode first c cs p e4 e5 e6 h
    by false false false true true false e1 e2 e3 e4 e5 e6 h = sound_spelling mode first (c ∷ cs) p e2 e3 h
    by false false false true false k e1 e2 e3 e4 e5 e6 h = sound_spelling mode first (c ∷ cs) p e2 e3 h
    by false false false false f k e1 e2 e3 e4 e5 e6 h = sound_spelling mode first (c ∷ cs) p e2 e3 h
