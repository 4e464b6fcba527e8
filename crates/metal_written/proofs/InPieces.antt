-- The pieces of messages, one byte after the other.
use Rattle.std.proofs.Common.{◌≡◌, ℕ, suc, ◌+◌, ◌<◌, ◌≤◌, Bool, true, false, cond, not, nat_eq, ◌==◌, ◌&&◌, ◌||◌, List, [], ◌∷◌, ◌++◌, length, get_or, drop, Option, None, Some, ap, refl, ◌∙◌, sym, subst, add-one, drop-cons, arith}
use Rattle.std.proofs.lemmas.Bool.Decides.{nat_tests}
use Rattle.std.proofs.lemmas.List.{drop_all}
use Rattle.std.specs.Option.{option_map}
use Rattle.metal_tree.specs.MetalMachines.Machine.{Piece, Bytes, HoleText}
use Rattle.metal_grammar.specs.Message.{percent, letter_s, literal_byte, push_literal, push_argument, pieces_of, conversion}
use Rattle.metal_written.specs.Messages.{ended, bytes_before, behind_pieces, first_of, later_arguments, pieces_from, with_argument, directive_without, directive_behind, directive_of, IsStep}

pub pieces-start : (o : Option (List Piece)) → behind_pieces [] [] o ≡ o
pieces-start None = refl
pieces-start (Some more) = refl

before-push : (bs : List ℕ) (b : ℕ) (more : List Piece) → bytes_before (bs ++ (b ∷ [])) more ≡ bytes_before bs (literal_byte b more)
before-push [] b more = refl
before-push (c ∷ bs) b more = ap (literal_byte c) (before-push bs b more)

-- a byte more
byte-more : (pieces : List Piece) (bytes : List ℕ) (b : ℕ) (o : Option (List Piece)) → behind_pieces pieces bytes (push_literal b o) ≡ behind_pieces pieces (bytes ++ (b ∷ [])) o
byte-more pieces bytes b None = refl
byte-more pieces bytes b (Some more) = ap (λ ps. Some (pieces ++ ps)) (sym (before-push bytes b more))

before-hole : (b : ℕ) (bs : List ℕ) (h : ℕ) (more : List Piece) → bytes_before (b ∷ bs) (HoleText h ∷ more) ≡ Bytes (b ∷ bs) ∷ HoleText h ∷ more
before-hole b [] h more = refl
before-hole b (c ∷ bs) h more = ap (literal_byte b) (before-hole c bs h more)

before-none : (b : ℕ) (bs : List ℕ) → bytes_before (b ∷ bs) [] ≡ Bytes (b ∷ bs) ∷ []
before-none b [] = refl
before-none b (c ∷ bs) = ap (literal_byte b) (before-none c bs)

append_three : (xs ys zs : List Piece) → (xs ++ ys) ++ zs ≡ xs ++ (ys ++ zs)
append_three [] ys zs = refl
append_three (x ∷ xs) ys zs = ap (λ ws. x ∷ ws) (append_three xs ys zs)

append_none : (xs : List Piece) → xs ++ [] ≡ xs
append_none [] = refl
append_none (x ∷ xs) = ap (λ ys. x ∷ ys) (append_none xs)

-- a hole ends the bytes before it
ended-hole : (pieces : List Piece) (bytes : List ℕ) (h : ℕ) (more : List Piece) → pieces ++ bytes_before bytes (HoleText h ∷ more) ≡ (ended pieces bytes ++ (HoleText h ∷ [])) ++ more
ended-hole pieces [] h more = sym (append_three pieces (HoleText h ∷ []) more)
ended-hole pieces (b ∷ bs) h more =
    ap (λ ps. pieces ++ ps) (before-hole b bs h more)
    ∙ sym (append_three (pieces ++ (Bytes (b ∷ bs) ∷ [])) (HoleText h ∷ []) more ∙ append_three pieces (Bytes (b ∷ bs) ∷ []) (HoleText h ∷ more))

hole-more : (pieces : List Piece) (bytes : List ℕ) (h : ℕ) (o : Option (List Piece)) → behind_pieces pieces bytes (option_map (λ ps. HoleText h ∷ ps) o) ≡ behind_pieces (ended pieces bytes ++ (HoleText h ∷ [])) [] o
hole-more pieces bytes h None = refl
hole-more pieces bytes h (Some more) = ap Some (ended-hole pieces bytes h more)

ended-none : (pieces : List Piece) (bytes : List ℕ) → pieces ++ bytes_before bytes [] ≡ ended pieces bytes
ended-none pieces [] = append_none pieces
ended-none pieces (b ∷ bs) = ap (λ ps. pieces ++ ps) (before-none b bs)

pub ended-some : (pieces : List Piece) (bytes : List ℕ) → 0 < length bytes → ended pieces bytes ≡ pieces ++ (Bytes bytes ∷ [])
ended-some pieces [] h = absurd (omega arith)
ended-some pieces (b ∷ bs) h = refl

-- an argument ends the bytes before it
pub step-hole : (old pushed : List Piece) (bytes new : List ℕ) (h : ℕ) → new ≡ [] → pushed ≡ ended old bytes ++ (HoleText h ∷ []) → IsStep old bytes pushed new true (with_argument (Some h))
step-hole old pushed bytes new h e n more = ap (λ p. behind_pieces p new more) n ∙ ap (λ b. behind_pieces (ended old bytes ++ (HoleText h ∷ [])) b more) e ∙ sym (hole-more old bytes h more)

-- a byte that stands for itself
pub step-byte : (pieces : List Piece) (bytes pushed : List ℕ) (b : ℕ) → pushed ≡ bytes ++ (b ∷ []) → (more : Option (List Piece)) → behind_pieces pieces pushed more ≡ behind_pieces pieces bytes (push_literal b more)
step-byte pieces bytes pushed b n more = ap (λ bs. behind_pieces pieces bs more) n ∙ sym (byte-more pieces bytes b more)

pub plain-byte : (pieces : List Piece) (bytes pushed : List ℕ) (b : ℕ) → (b ≡ 37 → ⊥) → pushed ≡ bytes ++ (b ∷ []) → IsStep pieces bytes pieces pushed true (directive_without b)
plain-byte pieces bytes pushed b h n more = let f : nat_eq b 37 ≡ false = grind (arith, nat_tests) in step-byte pieces bytes pushed b n more ∙ ap (λ c. behind_pieces pieces bytes (cond c more (push_literal b more))) (sym f)

pub plain-percent : (pieces : List Piece) (bytes : List ℕ) (b : ℕ) → b ≡ 37 → IsStep pieces bytes pieces bytes true (directive_without b)
plain-percent pieces bytes b h more = let f : nat_eq b 37 ≡ true = grind (arith, nat_tests) in ap (λ c. behind_pieces pieces bytes (cond c more (push_literal b more))) (sym f)

-- behind a `%`
pub behind-hole : (old new : List Piece) (bytes new_bytes : List ℕ) (may : Bool) (argument : Option ℕ) (b : ℕ) → b ≡ 115 → IsStep old bytes new new_bytes may (with_argument argument) → IsStep old bytes new new_bytes may (directive_behind argument b)
behind-hole old new bytes new_bytes may argument b h s more =
    let f : nat_eq b 115 ≡ true = grind (arith, nat_tests) in
    s more ∙ ap (λ c. behind_pieces old bytes (cond c (with_argument argument more) (cond (nat_eq b 37) (push_literal b more) None))) (sym f)

pub behind-bad : (pieces : List Piece) (bytes : List ℕ) (argument : Option ℕ) (b : ℕ) → (b ≡ 115 → ⊥) → (b ≡ 37 → ⊥) → IsStep pieces bytes pieces bytes false (directive_behind argument b)
behind-bad pieces bytes argument b h g more =
    let e : nat_eq b 115 ≡ false = grind (arith, nat_tests) in
    let f : nat_eq b 37 ≡ false = grind (arith, nat_tests) in
    sym (ap (λ c. behind_pieces pieces bytes (cond c (with_argument argument more) (cond (nat_eq b 37) (push_literal b more) None))) e
    ∙ ap (λ c. behind_pieces pieces bytes (cond c (push_literal b more) None)) f)

pub behind-percent : (pieces : List Piece) (bytes pushed : List ℕ) (argument : Option ℕ) (b : ℕ) → b ≡ 37 → pushed ≡ bytes ++ (b ∷ []) → IsStep pieces bytes pieces pushed true (directive_behind argument b)
behind-percent pieces bytes pushed argument b g n more =
    let e : nat_eq b 115 ≡ false = grind (arith, nat_tests) in
    let f : nat_eq b 37 ≡ true = grind (arith, nat_tests) in
    step-byte pieces bytes pushed b n more
    ∙ sym (ap (λ c. behind_pieces pieces bytes (cond c (with_argument argument more) (cond (nat_eq b 37) (push_literal b more) None))) e
    ∙ ap (λ c. behind_pieces pieces bytes (cond c (push_literal b more) None)) f)

-- the byte in front
one-step : (behind : Bool) (b : ℕ) (bs hs : List ℕ)
    → directive_of behind (first_of hs) b (pieces_from (not behind && nat_eq b percent) bs (cond (behind && nat_eq b letter_s) (later_arguments hs) hs)) ≡ pieces_from behind (b ∷ bs) hs
one-step true b bs hs = by (nat_eq b letter_s) hs
  where
    by : (s : Bool) (ys : List ℕ)
        → cond s (with_argument (first_of ys) (pieces_of bs (cond s (later_arguments ys) ys))) (cond (nat_eq b percent) (push_literal b (pieces_of bs (cond s (later_arguments ys) ys))) None)
        ≡ cond s (push_argument ys (λ others. pieces_of bs others)) (cond (nat_eq b percent) (push_literal b (pieces_of bs ys)) None)
    by true [] = refl
    by true (y ∷ ys) = refl
    by false ys = refl
one-step false b bs hs = by (nat_eq b percent)
  where
    by : (t : Bool) → cond t (pieces_from t bs hs) (push_literal b (pieces_from t bs hs)) ≡ cond t (conversion bs hs) (push_literal b (pieces_of bs hs))
    by true = refl
    by false = refl

-- one byte more, or one that may not stand there
pub text-next : (behind may next : Bool) (text hs left : List ℕ) (i d : ℕ) (old new : List Piece) (bytes new_bytes : List ℕ) (whole : Option (List Piece)) → i < length text
    → IsStep old bytes new new_bytes may (directive_of behind (first_of hs) (get_or text i d)) → left ≡ cond (behind && nat_eq (get_or text i d) 115) (later_arguments hs) hs
    → next ≡ (not behind && nat_eq (get_or text i d) 37)
    → behind_pieces old bytes (pieces_from behind (drop i text) hs) ≡ whole
    → behind_pieces new new_bytes (cond may (pieces_from next (drop (i + 1) text) left) None) ≡ whole
text-next behind may next text hs left i d old new bytes new_bytes whole h s l n w =
    let b = get_or text i d in
    let made = pieces_from (not behind && nat_eq b 37) (drop (suc i) text) (cond (behind && nat_eq b 115) (later_arguments hs) hs) in
    ap (λ j. behind_pieces new new_bytes (cond may (pieces_from next (drop j text) left) None)) (add-one i)
    ∙ ap (λ x. behind_pieces new new_bytes (cond may (pieces_from x (drop (suc i) text) left) None)) n
    ∙ ap (λ x. behind_pieces new new_bytes (cond may (pieces_from (not behind && nat_eq b 37) (drop (suc i) text) x) None)) l
    ∙ s made
    ∙ ap (behind_pieces old bytes) (one-step behind b (drop (suc i) text) hs)
    ∙ sym (ap (λ xs. behind_pieces old bytes (pieces_from behind xs hs)) (drop-cons text i d h))
    ∙ w

-- a byte that may stand there, and one that may not
pub text-good : (behind may next : Bool) (text hs left : List ℕ) (argument : Option ℕ) (i : ℕ) (old new : List Piece) (bytes new_bytes : List ℕ) (whole : Option (List Piece)) → i < length text
    → argument ≡ first_of hs → may ≡ true
    → IsStep old bytes new new_bytes may (directive_of behind argument (get_or text i 0)) → left ≡ cond (behind && nat_eq (get_or text i 0) 115) (later_arguments hs) hs
    → next ≡ (not behind && nat_eq (get_or text i 0) 37)
    → behind_pieces old bytes (pieces_from behind (drop i text) hs) ≡ whole
    → behind_pieces new new_bytes (pieces_from next (drop (i + 1) text) left) ≡ whole
text-good behind may next text hs left argument i old new bytes new_bytes whole h a m s l n w =
    let step : IsStep old bytes new new_bytes true (directive_of behind (first_of hs) (get_or text i 0))
    = subst (λ b. IsStep old bytes new new_bytes b (directive_of behind (first_of hs) (get_or text i 0))) m (subst (λ x. IsStep old bytes new new_bytes may (directive_of behind x (get_or text i 0))) a s) in
    text-next behind true next text hs left i 0 old new bytes new_bytes whole h step l n w

pub text-bad : (behind may : Bool) (text hs : List ℕ) (argument : Option ℕ) (i : ℕ) (old new : List Piece) (bytes new_bytes : List ℕ) (whole : Option (List Piece)) → i < length text
    → argument ≡ first_of hs → may ≡ false
    → IsStep old bytes new new_bytes may (directive_of behind argument (get_or text i 0))
    → behind_pieces old bytes (pieces_from behind (drop i text) hs) ≡ whole
    → None ≡ whole
text-bad behind may text hs argument i old new bytes new_bytes whole h a m s w =
    let step : IsStep old bytes new new_bytes false (directive_of behind (first_of hs) (get_or text i 0))
    = subst (λ b. IsStep old bytes new new_bytes b (directive_of behind (first_of hs) (get_or text i 0))) m (subst (λ x. IsStep old bytes new new_bytes may (directive_of behind x (get_or text i 0))) a s) in
    text-next behind false (not behind && nat_eq (get_or text i 0) 37) text hs (cond (behind && nat_eq (get_or text i 0) 115) (later_arguments hs) hs) i 0 old new bytes new_bytes whole h step refl refl w

-- behind all bytes
pub pieces-done : (behind : Bool) (text hs : List ℕ) (i : ℕ) (pieces : List Piece) (bytes : List ℕ) (whole : Option (List Piece)) → length text ≤ i
    → behind ≡ false → hs ≡ []
    → behind_pieces pieces bytes (pieces_from behind (drop i text) hs) ≡ whole
    → Some (ended pieces bytes) ≡ whole
pieces-done behind text hs i pieces bytes whole h b n w =
    ap Some (sym (ended-none pieces bytes))
    ∙ sym (ap (λ xs. behind_pieces pieces bytes (pieces_from false xs [])) (drop_all i text h))
    ∙ sym (ap (λ c. behind_pieces pieces bytes (pieces_from c (drop i text) [])) b)
    ∙ sym (ap (λ ys. behind_pieces pieces bytes (pieces_from behind (drop i text) ys)) n)
    ∙ w

-- a `%` in front of nothing, or arguments that are left
pub pieces-over : (behind : Bool) (text hs : List ℕ) (i : ℕ) (pieces : List Piece) (bytes : List ℕ) (whole : Option (List Piece)) → length text ≤ i
    → (behind || not (length hs == 0)) ≡ true
    → behind_pieces pieces bytes (pieces_from behind (drop i text) hs) ≡ whole
    → None ≡ whole
pieces-over behind text hs i pieces bytes whole h b w = sym (ap (λ xs. behind_pieces pieces bytes (pieces_from behind xs hs)) (drop_all i text h) ∙ by behind hs b) ∙ w
  where
    by : (c : Bool) (ys : List ℕ) → (c || not (length ys == 0)) ≡ true → behind_pieces pieces bytes (pieces_from c [] ys) ≡ None
    by true ys e = refl
    by false [] e = cc
    by false (y ∷ ys) e = refl

pub none-left : (hs : List ℕ) → (length hs == 0) ≡ true → hs ≡ []
none-left [] h = refl
none-left (b ∷ hs) h = let e : (length (b ∷ hs) == 0) ≡ false = grind arith in cc
