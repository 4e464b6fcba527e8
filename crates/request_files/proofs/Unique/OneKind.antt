-- Files of one kind with given words and contents have one list of machines, or of texts, and leave one table of names.
use Rattle.std.proofs.Common.{◌≡◌, ℕ, zero, suc, ◌+◌, ◌≤◌, List, [], ◌∷◌, ◌++◌, length, Contains, Some, slice_get, refl, sym, ap, ◌∙◌, subst, arith}
use Rattle.mx_base.specs.Names.{HasNoRepeats}
use Rattle.c_tree.specs.declared.token.Token.{Token}
use Rattle.c_tree.specs.TokenPlaces.{Rises}
use Rattle.c_lexer.specs.CReading.Pieces.{beginning}
use Rattle.c_lexer.specs.CReading.Reading.{lexemes}
use Rattle.c_lexer.specs.CReading.Strip.{stripped}
use Rattle.c_lexer.specs.declared.c_reading.mode.Mode.TheVariants.{C}
use Rattle.typed_unit.specs.Texts.{Text}
use Rattle.metal_tree.specs.MetalMachines.Machine.{Machine}
use Rattle.request_files.specs.Meanings.{HaveMachines, HaveTexts, IsSource}
use Rattle.request_files.proofs.Unique.KeptTokens.{rises_stripped, tokens_rise}
use Rattle.request_files.proofs.Unique.OneChecker.{one_machine, checker_once}
use Rattle.request_files.proofs.Unique.OneList.{names_once}
use Rattle.request_files.proofs.Unique.OneSource.{one_text}

some_is : {A : Type 0} (x y : A) → Some x ≡ Some y → x ≡ y
some_is x y h = cc

-- lists joined the same way at the same place
pub parted : (xs ys zs ws : List (List ℕ)) → length xs ≡ length zs → xs ++ ys ≡ zs ++ ws → (xs ≡ zs) × (ys ≡ ws)
parted [] ys [] ws n e = (refl, e)
parted [] ys (z ∷ zs) ws n e = absurd (omega (arith, n))
parted (x ∷ xs) ys [] ws n e = absurd (omega (arith, n))
parted (x ∷ xs) ys (z ∷ zs) ws n e =
    let h : x ≡ z = cc in
    let t : xs ++ ys ≡ zs ++ ws = cc in
    let r = parted xs ys zs ws (omega (arith, n)) t in
    (ap (λ a. a ∷ xs) h ∙ ap (λ l. z ∷ l) r.0, r.1)

pub one_machines : (number : ℕ) (before names grown words bs : List (List ℕ)) (ms ns : List Machine) → HasNoRepeats before → HaveMachines number before names words bs ms → HaveMachines number before grown words bs ns → (names ≡ grown) × (ms ≡ ns)
one_machines number before names grown [] [] [] [] once a b = (a ∙ sym b, refl)
one_machines number before names grown [] [] [] (n ∷ ns) once a b = absurd b
one_machines number before names grown [] [] (m ∷ ms) ns once a b = absurd a
one_machines number before names grown [] (x ∷ bs) ms ns once a b = absurd a
one_machines number before names grown (w ∷ ws) [] ms ns once a b = absurd a
one_machines number before names grown (w ∷ ws) (x ∷ bs) [] ns once a b = absurd a
one_machines number before names grown (w ∷ ws) (x ∷ bs) (m ∷ ms) [] once a b = absurd b
one_machines number before names grown (w ∷ ws) (x ∷ bs) (m ∷ ms) (n ∷ ns) once (j, c, a) (k, d, b) =
    let e = one_machine number w before x once j k m n c d in
    let a1 : HaveMachines (number + 1) k names ws bs ms = subst (λ z. HaveMachines (number + 1) z names ws bs ms) e.0 a in
    let r = one_machines (number + 1) k names grown ws bs ms ns (checker_once number w before x once k n d) a1 b in
    (r.0, ap (λ z. z ∷ ms) e.1 ∙ ap (λ zs. n ∷ zs) r.1)

pub machines_once : (number : ℕ) (before names words bs : List (List ℕ)) (ms : List Machine) → HasNoRepeats before → HaveMachines number before names words bs ms → HasNoRepeats names
machines_once number before names [] [] [] once a = subst HasNoRepeats (sym a) once
machines_once number before names [] [] (m ∷ ms) once a = absurd a
machines_once number before names [] (x ∷ bs) ms once a = absurd a
machines_once number before names (w ∷ ws) [] ms once a = absurd a
machines_once number before names (w ∷ ws) (x ∷ bs) [] once a = absurd a
machines_once number before names (w ∷ ws) (x ∷ bs) (m ∷ ms) once (j, c, a) = machines_once (number + 1) j names ws bs ms (checker_once number w before x once j m c) a

pub machines_many : (number : ℕ) (before names words bs : List (List ℕ)) (ms : List Machine) → HaveMachines number before names words bs ms → length bs ≡ length words
machines_many number before names [] [] [] a = refl
machines_many number before names [] [] (m ∷ ms) a = absurd a
machines_many number before names [] (x ∷ bs) ms a = absurd a
machines_many number before names (w ∷ ws) [] ms a = absurd a
machines_many number before names (w ∷ ws) (x ∷ bs) [] a = absurd a
machines_many number before names (w ∷ ws) (x ∷ bs) (m ∷ ms) (j, c, a) = ap suc (machines_many (number + 1) j names ws bs ms a)

-- the tokens of a text stand at different places
text_rises : (number : ℕ) (word : List ℕ) (before names : List (List ℕ)) (bytes : List ℕ) (t : Text) → IsSource number word before names bytes t → (high : ℕ) × Rises 0 t.tokens high
text_rises number word before names bytes t s =
    let ls = lexemes C (beginning word) s.tokens.pieces in
    let r = tokens_rise number names 0 ls s.list.all s.tokens.lexes.tokens in
    let k : Rises 0 (stripped s.list.all) (0 + length s.list.all) = rises_stripped 0 0 s.list.all (0 + length s.list.all) r in
    (0 + length s.list.all, subst (λ ts. Rises 0 ts (0 + length s.list.all)) (sym s.kept) k)

pub texts_rise : (number : ℕ) (before names words bs : List (List ℕ)) (ts : List Text) (i : ℕ) (t : Text) → HaveTexts number before names words bs ts → slice_get ts i ≡ Some t → (high : ℕ) × Rises 0 t.tokens high
texts_rise number before names words bs [] i t a e = cc
texts_rise number before names [] [] (u ∷ ts) i t a e = absurd a
texts_rise number before names [] (x ∷ bs) (u ∷ ts) i t a e = absurd a
texts_rise number before names (w ∷ ws) [] (u ∷ ts) i t a e = absurd a
texts_rise number before names (w ∷ ws) (x ∷ bs) (u ∷ ts) zero t (j, c, a) e = subst (λ (z : Text). (high : ℕ) × Rises 0 z.tokens high) (some_is u t e) (text_rises number w before j x u c)
texts_rise number before names (w ∷ ws) (x ∷ bs) (u ∷ ts) (suc i) t (j, c, a) e = texts_rise (number + 1) j names ws bs ts i t a e

above : (low high : ℕ) (ts : List Token) (t : Token) → Rises low ts high → Contains ts t → low ≤ t.place.token
above low high [] t r c = let h = c.1 in absurd (omega (arith, h))
above low high (u ∷ ts) t r (zero, lt, e) = subst (λ (x : Token). low ≤ x.place.token) e r.0
above low high (u ∷ ts) t r (suc k, lt, e) = let a = r.0 in let b = above (u.place.token + 1) high ts t r.1 (k, omega (arith, lt), e) in omega (arith, a, b)

pub one_token : (low high : ℕ) (ts : List Token) (t u : Token) → Rises low ts high → Contains ts t → Contains ts u → t.place.token ≡ u.place.token → t ≡ u
one_token low high [] t u r c d p = let h = c.1 in absurd (omega (arith, h))
one_token low high (x ∷ ts) t u r (zero, lt, e) (zero, lt2, f) p = sym e ∙ f
one_token low high (x ∷ ts) t u r (zero, lt, e) (suc k, lt2, f) p =
    let a = above (x.place.token + 1) high ts u r.1 (k, omega (arith, lt2), f) in
    let q : x.place.token ≡ t.place.token = ap (λ (z : Token). z.place.token) e in
    absurd (omega (arith, a, q, p))
one_token low high (x ∷ ts) t u r (suc k, lt, e) (zero, lt2, f) p =
    let a = above (x.place.token + 1) high ts t r.1 (k, omega (arith, lt), e) in
    let q : x.place.token ≡ u.place.token = ap (λ (z : Token). z.place.token) f in
    absurd (omega (arith, a, q, p))
one_token low high (x ∷ ts) t u r (suc k, lt, e) (suc j, lt2, f) p = one_token (x.place.token + 1) high ts t u r.1 (k, omega (arith, lt), e) (j, omega (arith, lt2), f) p

pub one_texts : (number : ℕ) (before names grown words bs : List (List ℕ)) (ts us : List Text) → HasNoRepeats before → HaveTexts number before names words bs ts → HaveTexts number before grown words bs us → (names ≡ grown) × (ts ≡ us)
one_texts number before names grown [] [] [] [] once a b = (a ∙ sym b, refl)
one_texts number before names grown [] [] [] (u ∷ us) once a b = absurd b
one_texts number before names grown [] [] (t ∷ ts) us once a b = absurd a
one_texts number before names grown [] (x ∷ bs) ts us once a b = absurd a
one_texts number before names grown (w ∷ ws) [] ts us once a b = absurd a
one_texts number before names grown (w ∷ ws) (x ∷ bs) [] us once a b = absurd a
one_texts number before names grown (w ∷ ws) (x ∷ bs) (t ∷ ts) [] once a b = absurd b
one_texts number before names grown (w ∷ ws) (x ∷ bs) (t ∷ ts) (u ∷ us) once (j, c, a) (k, d, b) =
    let e = one_text number w before x once j k t u c d in
    let a1 : HaveTexts (number + 1) k names ws bs ts = subst (λ z. HaveTexts (number + 1) z names ws bs ts) e.0 a in
    let r = one_texts (number + 1) k names grown ws bs ts us (names_once C number w before k x d.list once d.tokens) a1 b in
    (r.0, ap (λ z. z ∷ ts) e.1 ∙ ap (λ zs. u ∷ zs) r.1)
