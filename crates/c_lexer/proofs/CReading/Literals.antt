-- Where a literal ends: more bytes behind it don't matter, nor do those that are cut away.
use Rattle.std.proofs.Common.{◌≡◌, ℕ, ◌+◌, Bool, true, false, not, ◌&&◌, eqb, List, [], ◌∷◌, ◌++◌, length, Option, Some, inl, inr, refl, ap, sym, ◌∙◌, subst, arith}
use Rattle.c_lexer.specs.CReading.Bytes.{is_quote, begins}
use Rattle.c_lexer.specs.CReading.Spellings.{quoted, unprefixed_len, literal_len}
use Rattle.c_lexer.proofs.CReading.Tests.{cases, chosen, taken, passed, mapped, some_is}

-- the four ways behind a first byte that isn't the last
pub record Quoting (q c d : ℕ) (cs : List ℕ) (n : ℕ) : Type 0 where
  pub closes : eqb c q ≡ true → n ≡ 1
  pub no_feed : eqb c q ≡ false → eqb c 10 ≡ false
  pub escaped : eqb c q ≡ false → eqb c 92 ≡ true → (eqb d 10 ≡ false) × ((m : ℕ) × (quoted q cs ≡ Some m) × (n ≡ m + 2))
  pub plain : eqb c q ≡ false → eqb c 92 ≡ false → (m : ℕ) × (quoted q (d ∷ cs) ≡ Some m) × (n ≡ m + 1)

pub quoting : (q c d : ℕ) (cs : List ℕ) (n : ℕ) → quoted q (c ∷ d ∷ cs) ≡ Some n → Quoting q c d cs n
quoting q c d cs n h = record {
  closes = λ e. sym (some_is 1 n (rw e at h));
  no_feed = λ e. (passed (eqb c 10) _ n (rw e at h)).0;
  escaped = λ e k.
      let a = (passed (eqb c 10) _ n (rw e at h)).1 in
      let b = passed (eqb d 10) _ n (rw k at a) in
      (b.0, mapped 2 (quoted q cs) n b.1);
  plain = λ e k.
      let a = (passed (eqb c 10) _ n (rw e at h)).1 in
      mapped 1 (quoted q (d ∷ cs)) n (rw k at a);
}

pub quoted-append : (q : ℕ) (xs ys : List ℕ) (n : ℕ) → quoted q xs ≡ Some n → quoted q (xs ++ ys) ≡ Some n
quoted-append q [] ys n h = cc
quoted-append q (c ∷ []) [] n h = h
quoted-append q (c ∷ []) (y ∷ ys) n h = let t = taken (eqb c q) (Some 1) n h in rw (t.0) (t.1)
quoted-append q (c ∷ d ∷ cs) ys n h =
    let w = quoting q c d cs n h in
    let at_end : (e : eqb c q ≡ false) (k : eqb c 92 ≡ true) → quoted q (c ∷ d ∷ (cs ++ ys)) ≡ Some n =
    λ e k. let x = w.escaped e k in rw (e, w.no_feed e, k, x.0, quoted-append q cs ys x.1.0 x.1.1) (ap Some (sym (x.1.2))) in
    let plain : (e : eqb c q ≡ false) (k : eqb c 92 ≡ false) → quoted q (c ∷ d ∷ (cs ++ ys)) ≡ Some n =
    λ e k. let x = w.plain e k in rw (e, w.no_feed e, k, quoted-append q (d ∷ cs) ys x.0 x.1) (ap Some (sym (x.2))) in
    elim (cases (eqb c q)) as (λ _. quoted q (c ∷ d ∷ (cs ++ ys)) ≡ Some n) [
      | inl e ↦ rw e (ap Some (sym (w.closes e)))
      | inr e ↦ elim (cases (eqb c 92)) as (λ _. quoted q (c ∷ d ∷ (cs ++ ys)) ≡ Some n) [ inl k ↦ at_end e k | inr k ↦ plain e k ]
    ]

-- the front of a list that is n long, and of which len says the same
pub record Fronts (len : List ℕ → Option ℕ) (xs : List ℕ) (n : ℕ) : Type 0 where
  pub front : List ℕ
  pub back : List ℕ
  pub joined : xs ≡ front ++ back
  pub size : length front ≡ n
  pub says : len front ≡ Some n

longer : (q c : ℕ) (fs : List ℕ) (m : ℕ) → eqb c q ≡ false → eqb c 10 ≡ false → eqb c 92 ≡ false → quoted q fs ≡ Some m → quoted q (c ∷ fs) ≡ Some (m + 1)
longer q c [] m e f g h = cc
longer q c (d ∷ fs) m e f g h = rw (e, f, g, h) refl

pub quoted-front : (q : ℕ) (xs : List ℕ) (n : ℕ) → quoted q xs ≡ Some n → Fronts (quoted q) xs n
quoted-front q [] n h = cc
quoted-front q (c ∷ []) n h =
    let t = taken (eqb c q) (Some 1) n h in
    record { front = c ∷ []; back = []; joined = refl; size = omega (arith, some_is 1 n t.1); says = h }
quoted-front q (c ∷ d ∷ cs) n h =
    let w = quoting q c d cs n h in
    let closed : (e : eqb c q ≡ true) → Fronts (quoted q) (c ∷ d ∷ cs) n =
    λ e. record { front = c ∷ []; back = d ∷ cs; joined = refl; size = omega (arith, w.closes e); says = rw e (ap Some (sym (w.closes e))) } in
    let escaped : (e : eqb c q ≡ false) (k : eqb c 92 ≡ true) → Fronts (quoted q) (c ∷ d ∷ cs) n =
    λ e k.
    let x = w.escaped e k in
    let f = quoted-front q cs x.1.0 x.1.1 in
    record {
      front = c ∷ d ∷ f.front;
      back = f.back;
      joined = ap (λ l. c ∷ d ∷ l) f.joined;
      size = omega (arith, f.size, x.1.2);
      says = rw (e, w.no_feed e, k, x.0, f.says) (ap Some (sym (x.1.2)));
    } in
    let plain : (e : eqb c q ≡ false) (k : eqb c 92 ≡ false) → Fronts (quoted q) (c ∷ d ∷ cs) n =
    λ e k.
    let x = w.plain e k in
    let f = quoted-front q (d ∷ cs) x.0 x.1 in
    record {
      front = c ∷ f.front;
      back = f.back;
      joined = ap (λ l. c ∷ l) f.joined;
      size = omega (arith, f.size, x.2);
      says = longer q c f.front x.0 e (w.no_feed e) k f.says ∙ ap Some (sym (x.2));
    } in
    elim (cases (eqb c q)) as (λ _. Fronts (quoted q) (c ∷ d ∷ cs) n) [
      | inl e ↦ closed e
      | inr e ↦ elim (cases (eqb c 92)) as (λ _. Fronts (quoted q) (c ∷ d ∷ cs) n) [ inl k ↦ escaped e k | inr k ↦ plain e k ]
    ]

-- a list that holds a closing quote begins as it does with more behind
begins-append : (b q : ℕ) (xs ys : List ℕ) (n : ℕ) → quoted q xs ≡ Some n → begins b (xs ++ ys) ≡ begins b xs
begins-append b q [] ys n h = cc
begins-append b q (x ∷ xs) ys n h = refl

opens : ℕ → List ℕ → Bool
opens c cs = is_quote c && not (eqb c 39 && begins 39 cs)

opened : (c : ℕ) (cs : List ℕ) (n : ℕ) → unprefixed_len (c ∷ cs) ≡ Some n → ((is_quote c && not (eqb c 39 && begins 39 cs)) ≡ true) × (m : ℕ) × (quoted c cs ≡ Some m) × (n ≡ m + 1)
opened c cs n h =
    let t = taken (is_quote c && not (eqb c 39 && begins 39 cs)) _ n h in
    let m = mapped 1 (quoted c cs) n t.1 in
    (t.0, m.0, m.1, m.2)

pub unprefixed-append : (xs ys : List ℕ) (n : ℕ) → unprefixed_len xs ≡ Some n → unprefixed_len (xs ++ ys) ≡ Some n
unprefixed-append [] ys n h = cc
unprefixed-append (c ∷ cs) ys n h =
    let o = opened c cs n h in
    rw (begins-append 39 c cs ys o.1 o.2, o.0, quoted-append c cs ys o.1 o.2) (ap Some (sym (o.3)))

pub unprefixed-front : (xs : List ℕ) (n : ℕ) → unprefixed_len xs ≡ Some n → Fronts unprefixed_len xs n
unprefixed-front [] n h = cc
unprefixed-front (c ∷ cs) n h =
    let o = opened c cs n h in
    let f = quoted-front c cs o.1 o.2 in
    let b : begins 39 cs ≡ begins 39 f.front = ap (begins 39) f.joined ∙ begins-append 39 c f.front f.back o.1 f.says in
    record {
      front = c ∷ f.front;
      back = f.back;
      joined = ap (λ l. c ∷ l) f.joined;
      size = omega (arith, f.size, o.3);
      says = rw (← b, o.0, f.says) (ap Some (sym (o.3)));
    }

pub literal-append : (xs ys : List ℕ) (n : ℕ) → literal_len xs ≡ Some n → literal_len (xs ++ ys) ≡ Some n
unfolding literal_len
literal-append [] ys n h = cc
literal-append (c ∷ cs) ys n h = elim (chosen (eqb c 76) _ _ (Some n) h) as (λ _. literal_len (c ∷ (cs ++ ys)) ≡ Some n) [
  | inl t ↦ let m = mapped 1 (unprefixed_len cs) n t.1 in rw (t.0, unprefixed-append cs ys m.0 m.1) (ap Some (sym (m.2)))
  | inr t ↦ rw (t.0) (unprefixed-append (c ∷ cs) ys n t.1)
]

behind_l : (c : ℕ) (cs : List ℕ) (n : ℕ) → eqb c 76 ≡ true → Fronts unprefixed_len cs n → Fronts literal_len (c ∷ cs) (n + 1)
unfolding literal_len
behind_l c cs n e f = record {
  front = c ∷ f.front;
  back = f.back;
  joined = ap (λ l. c ∷ l) f.joined;
  size = omega (arith, f.size);
  says = rw (e, f.says) refl;
}

not_behind_l : (c : ℕ) (cs : List ℕ) (n : ℕ) → eqb c 76 ≡ false → Fronts unprefixed_len (c ∷ cs) n → Fronts literal_len (c ∷ cs) n
unfolding literal_len
not_behind_l c cs n e f = by f.front f.joined f.size f.says
  where
    by : (fs : List ℕ) → c ∷ cs ≡ fs ++ f.back → length fs ≡ n → unprefixed_len fs ≡ Some n → Fronts literal_len (c ∷ cs) n
    by [] j s k = cc
    by (d ∷ ds) j s k =
        let q : eqb d 76 ≡ false = let r : c ≡ d = cc in ap (λ x. eqb x 76) (sym r) ∙ e in
        record { front = d ∷ ds; back = f.back; joined = j; size = s; says = rw q k }

pub literal-front : (xs : List ℕ) (n : ℕ) → literal_len xs ≡ Some n → Fronts literal_len xs n
unfolding literal_len
literal-front [] n h = cc
literal-front (c ∷ cs) n h = elim (chosen (eqb c 76) _ _ (Some n) h) as (λ _. Fronts literal_len (c ∷ cs) n) [
  | inl t ↦
      let m = mapped 1 (unprefixed_len cs) n t.1 in
      subst (λ k. Fronts literal_len (c ∷ cs) k) (sym (m.2)) (behind_l c cs m.0 t.0 (unprefixed-front cs m.0 m.1))
  | inr t ↦ not_behind_l c cs n t.0 (unprefixed-front (c ∷ cs) n t.1)
]
