-- Numbers of names that stay right while names grow, and which strings are known.
use Rattle.std.proofs.Common.{◌≡◌, ℕ, zero, suc, ◌+◌, ◌<◌, ◌≤◌, Bool, true, false, cond, nat_eq, ◌&&◌, List, [], ◌∷◌, ◌++◌, length, get_or, slice_get, drop, Option, Some, ap, refl, ◌∙◌, sym, subst, add-one, drop-cons, arith}
use Rattle.std.proofs.lemmas.Bool.Decides.{nat_tests}
use Rattle.std.proofs.lemmas.List.{drop_all}
use Rattle.std.proofs.lemmas.Option.{slice_get-get_or, slice_get_within, get_or_from_slice_get}
use Rattle.std.proofs.lemmas.Slice.Eq.{bytes_eq-Decides}
use Rattle.std.proofs.Math.ListN.{get_or-append}
use Rattle.std.specs.Str.{bytes_eq}
use Rattle.mx_base.specs.Names.{IsNumberOf, AddsAtMost}
use Rattle.mx_base.proofs.NameLaws.{kept_number, length_adds}
use Rattle.c_tree.specs.declared.token.Token.{Token}
use Rattle.c_tree.specs.declared.token.TokenKind.{TokenKind}
use Rattle.c_tree.specs.declared.token.TokenKind.TheVariants as kinds
use Rattle.c_tree.specs.Symbol.{Symbol, Word, Reserved, Sign, IntLiteral, FloatLiteral, CharLiteral, StringLiteral, symbol_as, symbol_of, symbols_of}
use Rattle.metal_grammar.specs.Words.{Spelling, spelled, name_spelled, all_but_last}
use Rattle.metal_grammar.specs.Known.{IsName, SymbolIsKnown, StringsAreKnown}
use Rattle.metal_written.specs.Strings.{with_string, with_strings}
use Rattle.metal_written.specs.Texts.{same_key, contents_behind, IsRight, AreBelow}

equal : (a b : ℕ) → nat_eq a b ≡ true → a ≡ b
equal a b h = grind (arith, nat_tests)

both : (a b : Bool) → (a && b) ≡ true → (a ≡ true) × (b ≡ true)
both true b h = (refl, h)
both false b h = cc

pub one_key : (k l : ℕ × ℕ) → same_key k l ≡ true → k ≡ l
one_key k l h = let p = both (nat_eq k.0 l.0) (nat_eq k.1 l.1) h in λ i. (equal k.0 l.0 p.0 i, equal k.1 l.1 p.1 i)

-- where a text is a name, it is the one that is found first
pub first-spelled : (s : Spelling) (t : List ℕ) (n : ℕ) → n < length s → get_or s n [] ≡ t → (name_spelled s t < length s) × (get_or s (name_spelled s t) [] ≡ t)
first-spelled [] t n h e = absurd (omega arith)
first-spelled (x ∷ xs) t n h e = by (bytes_eq x t) refl (λ m l g. first-spelled xs t m l g) n h e
  where
    by : (b : Bool) → b ≡ bytes_eq x t → ((m : ℕ) → m < length xs → get_or xs m [] ≡ t → (name_spelled xs t < length xs) × (get_or xs (name_spelled xs t) [] ≡ t))
        → (m : ℕ) → m < length (x ∷ xs) → get_or (x ∷ xs) m [] ≡ t
        → (cond b 0 (suc (name_spelled xs t)) < length (x ∷ xs)) × (get_or (x ∷ xs) (cond b 0 (suc (name_spelled xs t))) [] ≡ t)
    by true q r m l g = (omega arith, (bytes_eq-Decides x t).0 (sym q))
    by false q r zero l g = let y = (bytes_eq-Decides x t).1 g in cc
    by false q r (suc m) l g = let k = r m (omega arith) g in (omega (arith, k.0), k.1)

pub name-number : (s : Spelling) (t : List ℕ) (n : ℕ) → IsNumberOf s t n → n ≡ name_spelled s t
name-number s t n h =
    let r = first-spelled s t n (slice_get_within s n t h.here) (get_or_from_slice_get s n t [] h.here) in
    sym (h.alone (name_spelled s t) (slice_get-get_or s (name_spelled s t) [] r.0 ∙ ap Some r.1))

spelled-grows : (old more : Spelling) (t : List ℕ) → name_spelled old t < length old → name_spelled (old ++ more) t ≡ name_spelled old t
spelled-grows [] more t h = absurd (omega arith)
spelled-grows (x ∷ xs) more t h = by (bytes_eq x t) (λ l. spelled-grows xs more t l) h
  where
    by : (b : Bool) → (name_spelled xs t < length xs → name_spelled (xs ++ more) t ≡ name_spelled xs t) → cond b 0 (suc (name_spelled xs t)) < length (x ∷ xs) → cond b 0 (suc (name_spelled (xs ++ more) t)) ≡ cond b 0 (suc (name_spelled xs t))
    by true r l = refl
    by false r l = ap suc (r (omega arith))

contents-grow : (old more : Spelling) (k : ℕ × ℕ) → k.0 < length old → contents_behind (old ++ more) k ≡ contents_behind old k
contents-grow old more k h = ap (λ x. all_but_last (drop k.1 x)) (get_or-append old more [] k.0 h)

pub contents-stay : (old new : Spelling) (most : ℕ) (k : ℕ × ℕ) → AddsAtMost old new most → k.0 < length old → contents_behind new k ≡ contents_behind old k
contents-stay old new most k a h = ap (λ s. contents_behind s k) a.behind ∙ contents-grow old a.more k h

spelled-stays : (old new : Spelling) (most : ℕ) (t : List ℕ) → AddsAtMost old new most → name_spelled old t < length old → name_spelled new t ≡ name_spelled old t
spelled-stays old new most t a h = ap (λ s. name_spelled s t) a.behind ∙ spelled-grows old a.more t h

pub right-grows : (old new : Spelling) (most : ℕ) (k : ℕ × ℕ) (n : ℕ) → AddsAtMost old new most → IsRight old k n → IsRight new k n
right-grows old new most k n a r =
    let l = length_adds old new most a in
    let below = r.below in
    let stay = contents-stay old new most k a r.below in
    let within : name_spelled old (contents_behind old k) < length old = subst (λ m. m < length old) r.number (slice_get_within old n _ r.here) in
    record {
      below = omega (arith, below, l.0);
      here = kept_number old new most n (contents_behind old k) a r.here ∙ ap Some (sym stay);
      number = r.number ∙ sym (ap (name_spelled new) stay ∙ spelled-stays old new most (contents_behind old k) a within);
    }

-- the numbers of texts as a function
abbrev pub AllRight : Spelling → (ℕ × ℕ → Option ℕ) → Type 0
AllRight s numbers = (k : ℕ × ℕ) (n : ℕ) → numbers k ≡ Some n → IsRight s k n

pub all-grow : (old new : Spelling) (most : ℕ) (numbers : ℕ × ℕ → Option ℕ) → AddsAtMost old new most → AllRight old numbers → AllRight new numbers
all-grow old new most numbers a h k n e = right-grows old new most k n a (h k n e)

some : (a b : ℕ) → ◌≡◌ {A = Option ℕ} (Some a) (Some b) → a ≡ b
some a b h = cc

pub all-added : (s : Spelling) (old new : ℕ × ℕ → Option ℕ) (k : ℕ × ℕ) (n : ℕ) → ((q : ℕ × ℕ) → new q ≡ cond (same_key k q) (Some n) (old q)) → AllRight s old → IsRight s k n → AllRight s new
all-added s old new k n w h r q m e = by (same_key k q) refl
  where
    by : (b : Bool) → b ≡ same_key k q → IsRight s q m
    by true g =
        let same : k ≡ q = one_key k q (sym g) in
        let number : n ≡ m = some n m (ap (λ b. cond b (Some n) (old q)) g ∙ sym (w q) ∙ e) in
        subst (λ j. IsRight s q j) number (subst (λ l. IsRight s l n) same r)
    by false g = h q m (ap (λ b. cond b (Some n) (old q)) g ∙ sym (w q) ∙ e)

-- what is interned is right
pub right-made : (old new : Spelling) (most : ℕ) (k : ℕ × ℕ) (n : ℕ) → AddsAtMost old new most → k.0 < length old → IsNumberOf new (contents_behind old k) n → IsRight new k n
right-made old new most k n a h i =
    let l = length_adds old new most a in
    let stay = contents-stay old new most k a h in
    record {
      below = omega (arith, h, l.0);
      here = i.here ∙ ap Some (sym stay);
      number = name-number new (contents_behind old k) n i ∙ ap (name_spelled new) (sym stay);
    }

pub right-known : (s : Spelling) (k : ℕ × ℕ) (n : ℕ) → IsRight s k n → IsName s (contents_behind s k)
right-known s k n r = ap (slice_get s) (sym r.number) ∙ r.here

-- the strings among the first i tokens are known
abbrev pub FirstKnown : Spelling → ℕ → List Token → Type 0
FirstKnown s zero ts = Unit {0}
FirstKnown s (suc i) [] = Unit {0}
FirstKnown s (suc i) (t ∷ ts) = SymbolIsKnown s (symbol_of t) × FirstKnown s i ts

literal-grows : (old new : Spelling) (most : ℕ) (wide : Bool) (name : ℕ) → AddsAtMost old new most → name < length old → SymbolIsKnown old (StringLiteral wide name) → SymbolIsKnown new (StringLiteral wide name)
literal-grows old new most wide name a h k =
    let key : ℕ × ℕ = (name, cond wide 2 1) in
    let number : ℕ = name_spelled old (contents_behind old key) in
    let made : IsRight old key number = record { below = h; here = k; number = refl } in
    right-known new key number (right-grows old new most key number a made)

-- the name of a token that is a string
abbrev NamedBelow : ℕ → Symbol → Type 0
NamedBelow n (StringLiteral wide name) = name < n
NamedBelow n _ = Unit {0}

symbol-grows : (old new : Spelling) (most : ℕ) (x : Symbol) → AddsAtMost old new most → NamedBelow (length old) x → SymbolIsKnown old x → SymbolIsKnown new x
symbol-grows old new most (StringLiteral wide name) a h k = literal-grows old new most wide name a h k
symbol-grows old new most (Word name) a h k = tt
symbol-grows old new most (Reserved w) a h k = tt
symbol-grows old new most (Sign p) a h k = tt
symbol-grows old new most (IntLiteral v name) a h k = tt
symbol-grows old new most (FloatLiteral v name) a h k = tt
symbol-grows old new most (CharLiteral w name) a h k = tt

named-below : (n : ℕ) (t : Token) → t.name < n → NamedBelow n (symbol_of t)
named-below n t h = by t.kind
  where
    by : (k : TokenKind) → NamedBelow n (symbol_as k t.name)
    by (kinds.Word m) = tt
    by (kinds.Keyword k) = tt
    by (kinds.Int v d u l) = tt
    by (kinds.Float e) = tt
    by (kinds.Char w) = tt
    by (kinds.Str w) = h
    by (kinds.Punct p) = tt

pub first-grows : (old new : Spelling) (most i : ℕ) (ts : List Token) → AddsAtMost old new most → AreBelow (length old) ts → FirstKnown old i ts → FirstKnown new i ts
first-grows old new most zero ts a b k = tt
first-grows old new most (suc i) [] a b k = tt
first-grows old new most (suc i) (t ∷ ts) a b k = (symbol-grows old new most (symbol_of t) a (named-below (length old) t b.0) k.0, first-grows old new most i ts a b.1 k.1)

first-push : (s : Spelling) (ts : List Token) (i : ℕ) (d : Token) → i < length ts → FirstKnown s i ts → SymbolIsKnown s (symbol_of (get_or ts i d)) → FirstKnown s (suc i) ts
first-push s [] i d h k e = absurd (omega arith)
first-push s (t ∷ ts) zero d h k e = (e, tt)
first-push s (t ∷ ts) (suc i) d h k e = (k.0, first-push s ts i d (omega arith) k.1 e)

pub first-next : (s : Spelling) (ts : List Token) (i : ℕ) (d : Token) → i < length ts → FirstKnown s i ts → SymbolIsKnown s (symbol_of (get_or ts i d)) → FirstKnown s (i + 1) ts
first-next s ts i d h k e = subst (λ j. FirstKnown s j ts) (sym (add-one i)) (first-push s ts i d h k e)

pub first-all : (s : Spelling) (ts : List Token) (i : ℕ) → length ts ≤ i → FirstKnown s i ts → StringsAreKnown s (symbols_of ts)
first-all s [] i h k = tt
first-all s (t ∷ ts) zero h k = absurd (omega arith)
first-all s (t ∷ ts) (suc i) h k = (k.0, first-all s ts i (omega arith) k.1)

-- the names with the contents of the strings among the first i tokens
abbrev pub strings_first : Spelling → ℕ → List Token → Spelling
strings_first names zero ts = names
strings_first names (suc i) [] = names
strings_first names (suc i) (t ∷ ts) = strings_first (with_string names (symbol_of t)) i ts

strings-push : (names : Spelling) (ts : List Token) (i : ℕ) (d : Token) → i < length ts → with_string (strings_first names i ts) (symbol_of (get_or ts i d)) ≡ strings_first names (suc i) ts
strings-push names [] i d h = absurd (omega arith)
strings-push names (t ∷ ts) zero d h = refl
strings-push names (t ∷ ts) (suc i) d h = strings-push (with_string names (symbol_of t)) ts i d (omega arith)

pub strings-next : (old names new : Spelling) (ts : List Token) (i : ℕ) (d : Token) → i < length ts → names ≡ strings_first old i ts → new ≡ with_string names (symbol_of (get_or ts i d)) → new ≡ strings_first old (i + 1) ts
strings-next old names new ts i d h e f = f ∙ ap (λ ns. with_string ns (symbol_of (get_or ts i d))) e ∙ strings-push old ts i d h ∙ ap (λ j. strings_first old j ts) (sym (add-one i))

pub strings-all : (names : Spelling) (ts : List Token) (i : ℕ) → length ts ≤ i → strings_first names i ts ≡ with_strings names (symbols_of ts)
strings-all names [] zero h = refl
strings-all names [] (suc i) h = refl
strings-all names (t ∷ ts) zero h = absurd (omega arith)
strings-all names (t ∷ ts) (suc i) h = strings-all (with_string names (symbol_of t)) ts i (omega arith)

-- tokens below more names
pub below-grows : (m n : ℕ) (ts : List Token) → m ≤ n → AreBelow m ts → AreBelow n ts
below-grows m n [] h b = tt
below-grows m n (t ∷ ts) h b = let c = b.0 in (omega (arith, c, h), below-grows m n ts h b.1)

pub below-at : (n : ℕ) (ts : List Token) (i : ℕ) (d : Token) → i < length ts → AreBelow n ts → (get_or ts i d).name < n
below-at n [] i d h b = absurd (omega arith)
below-at n (t ∷ ts) zero d h b = b.0
below-at n (t ∷ ts) (suc i) d h b = below-at n ts i d (omega arith) b.1

-- a search among the names
pub search-next : (s : Spelling) (t : List ℕ) (i whole : ℕ) → i < length s → bytes_eq (spelled s i) t ≡ false → i + name_spelled (drop i s) t ≡ whole → i + 1 + name_spelled (drop (i + 1) s) t ≡ whole
search-next s t i whole h e w =
    let here : name_spelled (drop i s) t ≡ suc (name_spelled (drop (i + 1) s) t)
    = ap (λ xs. name_spelled xs t) (drop-cons s i [] h) ∙ ap (λ b. cond b 0 (suc (name_spelled (drop (suc i) s) t))) e ∙ ap (λ j. suc (name_spelled (drop j s) t)) (sym (add-one i)) in
    omega (arith, here, w)

pub search-here : (s : Spelling) (t : List ℕ) (i whole : ℕ) → i < length s → bytes_eq (spelled s i) t ≡ true → i + name_spelled (drop i s) t ≡ whole → i ≡ whole
search-here s t i whole h e w =
    let here : name_spelled (drop i s) t ≡ 0 = ap (λ xs. name_spelled xs t) (drop-cons s i [] h) ∙ ap (λ b. cond b 0 (suc (name_spelled (drop (suc i) s) t))) e in
    omega (arith, here, w)

pub search-over : (s : Spelling) (t : List ℕ) (i whole : ℕ) → length s ≤ i → i + name_spelled (drop i s) t ≡ whole → i ≡ whole
search-over s t i whole h w =
    let here : name_spelled (drop i s) t ≡ 0 = ap (λ xs. name_spelled xs t) (drop_all i s h) in
    omega (arith, here, w)

pub ruleset searching = (search-next, search-here, search-over)
