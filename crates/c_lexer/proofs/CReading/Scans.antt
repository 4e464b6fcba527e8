-- Steps of a reader that goes on byte by byte.
use Rattle.std.proofs.Common.{◌≡◌, ℕ, ◌+◌, ◌-◌, ◌*◌, ◌≤◌, ◌<◌, true, false, cond, eqb, leb, ◌&&◌, List, [], ◌∷◌, length, take, drop, get_or, subst, Option, None, Some, inl, inr, refl, ap, sym, ◌∙◌, arith}
use Rattle.std.proofs.lemmas.Bool.Decides.{nat_tests}
use Rattle.c_lexer.specs.CReading.Bytes.{begins}
use Rattle.c_lexer.specs.CReading.Constants.{digit_value, value_after}
use Rattle.c_lexer.specs.CReading.Spellings.{quoted}
use Rattle.c_lexer.specs.Ways.Cutting.{closing}
use Rattle.c_lexer.specs.CReading.Scans.{plus}
use Rattle.std.proofs.lemmas.List.{take_all}
use Rattle.c_lexer.proofs.CReading.Tests.{cases, unequal, same_true}

pub plus-plus : (k m : ℕ) (o : Option ℕ) → plus k (plus m o) ≡ plus (k + m) o
plus-plus k m None = refl
plus-plus k m (Some n) = ap Some (omega arith)

-- ---- literals

pub quoted-more : (q c : ℕ) (cs : List ℕ) (k : ℕ) → eqb c q ≡ false → eqb c 10 ≡ false → eqb c 92 ≡ false → plus k (quoted q (c ∷ cs)) ≡ plus (k + 1) (quoted q cs)
quoted-more q c [] k e f g = rw e refl
quoted-more q c (d ∷ cs) k e f g = rw (e, f, g) (plus-plus k 1 (quoted q (d ∷ cs)))

pub quoted-escape : (q c d : ℕ) (cs : List ℕ) (k : ℕ) → eqb c q ≡ false → eqb c 10 ≡ false → eqb c 92 ≡ true → eqb d 10 ≡ false → plus k (quoted q (c ∷ d ∷ cs)) ≡ plus (k + 2) (quoted q cs)
quoted-escape q c d cs k e f g h = rw (e, f, g, h) (plus-plus k 2 (quoted q cs))

pub quoted-end : (q c : ℕ) (cs : List ℕ) → eqb c q ≡ true → quoted q (c ∷ cs) ≡ Some 1
quoted-end q c [] e = rw e refl
quoted-end q c (d ∷ cs) e = rw e refl

pub quoted-feed : (q c : ℕ) (cs : List ℕ) → eqb c q ≡ false → eqb c 10 ≡ true → quoted q (c ∷ cs) ≡ None
quoted-feed q c [] e f = rw e refl
quoted-feed q c (d ∷ cs) e f = rw (e, f) refl

pub quoted-escaped_feed : (q c d : ℕ) (cs : List ℕ) → eqb c q ≡ false → eqb c 92 ≡ true → eqb d 10 ≡ true → quoted q (c ∷ d ∷ cs) ≡ None
quoted-escaped_feed q c d cs e f g = elim (cases (eqb c 10)) as (λ _. quoted q (c ∷ d ∷ cs) ≡ None) [ inl h ↦ rw (e, h) refl | inr h ↦ rw (e, h, f, g) refl ]

pub quoted-last : (q c : ℕ) → eqb c q ≡ false → quoted q (c ∷ []) ≡ None
quoted-last q c e = rw e refl

-- ---- comments

pub closing-more : (c : ℕ) (cs : List ℕ) (k : ℕ) → (eqb c 42 && begins 47 cs) ≡ false → plus k (closing (c ∷ cs)) ≡ plus (k + 1) (closing cs)
closing-more c cs k e = rw e (plus-plus k 1 (closing cs))

-- ---- values

pub value_after_ge : (base before : ℕ) (ds : List ℕ) → 0 < base → before ≤ value_after base before ds
value_after_ge base before [] h = omega arith
value_after_ge base before (d ∷ ds) h =
    let r = value_after_ge base (before * base + digit_value d) ds h in
    let m : before ≤ before * base = grows before base h in
    omega arith
  where
    grows : (a b : ℕ) → 0 < b → a ≤ a * b
    grows a b k = grind arith

-- a value that is too large stays too large
pub value_past : (base before most : ℕ) (ds : List ℕ) → 0 < base → most < before → cond (leb (value_after base before ds) most) (Some (value_after base before ds)) None ≡ None
value_past base before most ds h k =
    let g = value_after_ge base before ds h in
    let f : leb (value_after base before ds) most ≡ false = grind (arith, nat_tests) in
    rw f refl

pub plus-zero : (o : Option ℕ) → plus 0 o ≡ o
plus-zero None = refl
plus-zero (Some n) = ap Some (omega arith)

-- what follows the first byte of a slice, as a reader takes it
abbrev pub behind_first : List ℕ → List ℕ
behind_first l = take (length l - 1) (drop 1 l)

pub behind_cons : (c : ℕ) (cs : List ℕ) → take (length (c ∷ cs) - 1) (drop 1 (c ∷ cs)) ≡ cs
behind_cons c cs = take_all (length (c ∷ cs) - 1) cs (omega arith)

pub quoted-next : (q k : ℕ) (l : List ℕ) → 1 ≤ length l → (get_or l 0 0 ≡ q → ⊥) → (get_or l 0 0 ≡ 10 → ⊥) → (get_or l 0 0 ≡ 92 → ⊥) → plus (k + 1) (quoted q (behind_first l)) ≡ plus k (quoted q l)
quoted-next q k [] n e f g = absurd (omega arith)
quoted-next q k (c ∷ cs) n e f g = rw (behind_cons c cs) (sym (quoted-more q c cs k (unequal c q e) (unequal c 10 f) (unequal c 92 g)))

pub quoted-behind : (q k : ℕ) (l : List ℕ) → 1 ≤ length l → 1 ≤ length (behind_first l) → (get_or l 0 0 ≡ q → ⊥) → (get_or l 0 0 ≡ 10 → ⊥) → get_or l 0 0 ≡ 92 → (get_or (behind_first l) 0 0 ≡ 10 → ⊥) → plus (k + 2) (quoted q (behind_first (behind_first l))) ≡ plus k (quoted q l)
quoted-behind q k [] n m e f g h = absurd (omega arith)
quoted-behind q k (c ∷ []) n m e f g h = absurd (omega arith)
quoted-behind q k (c ∷ d ∷ cs) n m e f g h =
    let b : behind_first (c ∷ d ∷ cs) ≡ d ∷ cs = behind_cons c (d ∷ cs) in
    let t : behind_first (behind_first (c ∷ d ∷ cs)) ≡ cs = ap behind_first b ∙ behind_cons d cs in
    let H : List ℕ → Type 0 = λ l. get_or l 0 0 ≡ 10 → ⊥ in
    let x : d ≡ 10 → ⊥ = subst H b h in
    rw t (sym (quoted-escape q c d cs k (unequal c q e) (unequal c 10 f) (same_true c 92 g) (unequal d 10 x)))

pub ruleset quoted_steps = (quoted-end, quoted-feed, quoted-escaped_feed, quoted-last, plus-zero)

pub ruleset closing_steps = (closing-more, plus-zero)
