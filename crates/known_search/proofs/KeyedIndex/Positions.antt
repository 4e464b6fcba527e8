-- Positions by key, one more at a time.
use Rattle.std.proofs.Common.{◌≡◌, ◌⊎◌, inl, inr, ℕ, zero, suc, ◌+◌, ◌<◌, ◌≤◌, nat_eq, Bool, true, false, ◌||◌, List, [], ◌∷◌, ◌++◌, length, get_or, take, Contains, Option, None, Some, slice_get, refl, sym, ap, subst, ◌∙◌, true≢false, arith}
use Rattle.std.proofs.lemmas.Bool.{eqb-true, eq-eqb}
use Rattle.std.proofs.lemmas.List.{take_more, take_all}
use Rattle.std.proofs.lemmas.List.Elements.{Contains-append_right}
use Rattle.std.proofs.lemmas.Grind.{common_steps}
use Rattle.std.proofs.lemmas.Option.{slice_get_within}
use Rattle.least_set.specs.Indexes.{Extends}
use Rattle.least_set.specs.Logs.{Adds, IsExactly, SomeGives}
use Rattle.least_set.proofs.Growing.{nothing, either, place_of, at_place, adds_none, adds_same, adds_next}
use Rattle.known_search.specs.KeyedIndex.Filed.{is_listed, passes, AreFiled, GivesAt}

-- ---- lists of positions

first : (j : ℕ) (js : List ℕ) → Contains (j ∷ js) j
first j js = (0, omega arith, refl)

later : (i j : ℕ) (js : List ℕ) → Contains js j → Contains (i ∷ js) j
later i j js (k, h, e) = (suc k, omega arith, e)

cases : (i j : ℕ) (js : List ℕ) → Contains (i ∷ js) j → (i ≡ j) ⊎ Contains js j
cases i j js (zero, h, e) = inl e
cases i j js (suc k, h, e) = inr (k, omega arith, e)

or_true : (a b : Bool) → a || b ≡ true → (a ≡ true) ⊎ (b ≡ true)
or_true true b h = inl refl
or_true false b h = inr h

or_right : (a : Bool) → a || true ≡ true
or_right true = refl
or_right false = refl

pub is_there : (js : List ℕ) (j : ℕ) → is_listed js j ≡ true → Contains js j
is_there [] j h = absurd (true≢false (sym h))
is_there (i ∷ js) j h = elim (or_true (nat_eq j i) (is_listed js j) h) [
  | inl e ↦ subst (λ k. Contains (i ∷ js) k) (sym (eqb-true j i e)) (first i js)
  | inr w ↦ later i j js (is_there js j w)
]

pub there_is : (js : List ℕ) (j : ℕ) → Contains js j → is_listed js j ≡ true
there_is [] j h = absurd (nothing j h)
there_is (i ∷ js) j h = elim (cases i j js h) [
  | inl e ↦ ap (λ b. b || is_listed js j) (eq-eqb j i (sym e))
  | inr w ↦ ap (λ b. nat_eq j i || b) (there_is js j w) ∙ or_right (nat_eq j i)
]

-- ---- places of a list that grows

module _ {C : Type 0} where
  placed : (xs : List C) (x : C) (j : ℕ) (c : C) → slice_get (xs ++ x ∷ []) j ≡ Some c → (slice_get xs j ≡ Some c) ⊎ ((j ≡ length xs) × (x ≡ c))
  placed [] x zero c e = let same : x ≡ c = cc in inr (refl, same)
  placed [] x (suc j) c e = cc
  placed (y ∷ ys) x zero c e = inl e
  placed (y ∷ ys) x (suc j) c e = elim (placed ys x j c e) [ inl w ↦ inl w | inr w ↦ inr (ap suc w.0, w.1) ]

  stays : (xs : List C) (x : C) (j : ℕ) (c : C) → slice_get xs j ≡ Some c → slice_get (xs ++ x ∷ []) j ≡ Some c
  stays [] x j c e = cc
  stays (y ∷ ys) x zero c e = e
  stays (y ∷ ys) x (suc j) c e = stays ys x j c e

  last : (xs : List C) (x : C) → slice_get (xs ++ x ∷ []) (length xs) ≡ Some x
  last [] x = refl
  last (y ∷ ys) x = last ys x

  passed : (o : Option C) (test : C → Bool) → passes o test ≡ true → (c : C) × (o ≡ Some c) × (test c ≡ true)
  passed None test h = absurd (true≢false (sym h))
  passed (Some c) test h = (c, refl, h)

same_truth : (a b : Bool) → (a ≡ true → b ≡ true) → (b ≡ true → a ≡ true) → a ≡ b
same_truth true true f g = refl
same_truth false false f g = refl
same_truth true false f g = sym (f refl)
same_truth false true f g = g refl

module _ {C K : Type 0} (eq : K → K → Bool) (same : (x y : K) → eq x y ≡ true → x ≡ y) (itself : (x : K) → eq x x ≡ true) (key : C → K) where
  pub none_filed : (lists : K → List ℕ) → ((k : K) → lists k ≡ []) → AreFiled eq key [] lists
  none_filed lists empty k j = ap (λ js. is_listed js j) (empty k)

  -- the next of them
  more_filed : (xs : List C) (x : C) (old new : K → List ℕ) → AreFiled eq key xs old → Extends (λ k j. (key x ≡ k) × (length xs ≡ j)) old new → AreFiled eq key (xs ++ x ∷ []) new
  more_filed xs x old new filed e k j = same_truth (is_listed (new k) j) (passes (slice_get (xs ++ x ∷ []) j) (λ c. eq (key c) k)) to from
    where
      to : is_listed (new k) j ≡ true → passes (slice_get (xs ++ x ∷ []) j) (λ c. eq (key c) k) ≡ true
      to h = elim (e.only k j (is_there (new k) j h)) [
        | inl o ↦
            let p = passed (slice_get xs j) (λ c. eq (key c) k) (sym (filed k j) ∙ there_is (old k) j o) in
            ap (λ z. passes z (λ c. eq (key c) k)) (stays xs x j p.0 p.1) ∙ p.2
        | inr w ↦
            ap (λ i. passes (slice_get (xs ++ x ∷ []) i) (λ c. eq (key c) k)) (sym w.1)
            ∙ ap (λ z. passes z (λ c. eq (key c) k)) (last xs x)
            ∙ ap (λ q. eq q k) w.0
            ∙ itself k
      ]

      from : passes (slice_get (xs ++ x ∷ []) j) (λ c. eq (key c) k) ≡ true → is_listed (new k) j ≡ true
      from h =
          let p = passed (slice_get (xs ++ x ∷ []) j) (λ c. eq (key c) k) h in
          elim (placed xs x j p.0 p.1) [
            | inl s ↦ there_is (new k) j (e.kept k j (is_there (old k) j (filed k j ∙ ap (λ z. passes z (λ c. eq (key c) k)) s ∙ p.2)))
            | inr s ↦ there_is (new k) j (e.added k j (ap key s.1 ∙ same (key p.0) k p.2, sym s.0))
          ]

  pub next_filed : (xs : List C) (i : ℕ) (x : C) (old new : K → List ℕ) → i < length xs → x ≡ get_or xs i x → AreFiled eq key (take i xs) old
      → Extends (λ k j. (key x ≡ k) × (i ≡ j)) old new → AreFiled eq key (take (i + 1) xs) new
  next_filed xs i x old new h is filed e =
      let many : length (take i xs) ≡ i = grind (arith, common_steps) in
      let more : take (i + 1) xs ≡ take i xs ++ x ∷ [] = take_more xs i x h ∙ ap (λ z. take i xs ++ z ∷ []) (sym is) in
      subst (λ ys. AreFiled eq key ys new) (sym more) (more_filed (take i xs) x old new filed (subst (λ n. Extends (λ k j. (key x ≡ k) × (n ≡ j)) old new) (sym many) e))

  pub all_filed : (xs : List C) (i : ℕ) (lists : K → List ℕ) → length xs ≤ i → AreFiled eq key (take i xs) lists → AreFiled eq key xs lists
  all_filed xs i lists h filed = subst (λ ys. AreFiled eq key ys lists) (take_all i xs h) filed

  -- ---- what filed changes give

  module _ (xs : List C) (lists : K → List ℕ) (filed : AreFiled eq key xs lists) where
    pub within : (k : K) (j : ℕ) → Contains (lists k) j → j < length xs
    within k j h = let p = passed (slice_get xs j) (λ c. eq (key c) k) (sym (filed k j) ∙ there_is (lists k) j h) in slice_get_within xs j p.0 p.1

    pub all_given : {T G : Type 0} (gives : C → T → G → Type 0) (t : T) (keys : List K) (found : List G) → ((c : C) (g : G) → gives c t g → Contains keys (key c))
        → Adds (SomeGives (λ k. SomeGives (GivesAt gives xs t) (lists k)) keys) [] found → IsExactly found (SomeGives (λ c. gives c t) xs)
    all_given {G = G} gives t keys found under adds = (
      λ g m. elim (either adds g m) [
        | inl o ↦ absurd (nothing g o)
        | inr w ↦ let v = w.2.2 in (v.0, at_place xs w.2.0 v.0 v.1, v.2)
      ],
      λ g w.
          let p = place_of xs w.0 w.1 in
          let listed : Contains (lists (key w.0)) p.0 = is_there (lists (key w.0)) p.0 (filed (key w.0) p.0 ∙ ap (λ z. passes z (λ c. eq (key c) (key w.0))) p.2 ∙ itself (key w.0)) in
          adds.added g (key w.0, under w.0 g w.2, (p.0, listed, (w.0, p.2, w.2))),
    )

-- ---- lists that grow

module _ {G : Type 0} where
  pub appended : {P : G → Type 0} (old more new : List G) → new ≡ old ++ more → IsExactly more P → Adds P old new
  appended old more new e is = record {
    more = more;
    whole = e;
    added = λ g p. subst (λ l. Contains l g) (sym e) (Contains-append_right old more g (is.1 g p));
    only = is.0;
  }

  pub nothing_given : {X : Type 0} (H : X → G → Type 0) (old : List G) → Adds (SomeGives H []) old old
  nothing_given H old = adds_none old (λ g w. nothing w.0 w.1)

  -- the next of a list gave what it gives
  pub next_given : {X : Type 0} (H : X → G → Type 0) (xs : List X) (i : ℕ) (x : X) (old mid new : List G) → i < length xs → x ≡ get_or xs i x → Adds (SomeGives H (take i xs)) old mid → Adds (H x) mid new
      → Adds (SomeGives H (take (i + 1) xs)) old new
  next_given H xs i x old mid new h e v w = adds_next H xs i x h v (subst (λ z. Adds (H z) mid new) e w)

same_value : {A : Type 0} (a b : A) → Some a ≡ Some b → a ≡ b
same_value a b k = cc

-- a change at its position
pub of_place : {C T G : Type 0} (gives : C → T → G → Type 0) (xs : List C) (t : T) (j : ℕ) (c : C) (old new : List G) → slice_get xs j ≡ Some c → Adds (gives c t) old new → Adds (GivesAt gives xs t j) old new
of_place gives xs t j c old new e w = adds_same w (λ g h. (c, e, h)) (λ g h. subst (λ z. gives z t g) (same_value h.0 c (sym h.1 ∙ e)) h.2)
