-- Steps of a log that grows.
use Rattle.std.proofs.Common.{◌≡◌, ℕ, ◌+◌, ◌-◌, ◌<◌, ◌≤◌, zero, suc, arith, List, [], ◌∷◌, ◌++◌, Contains, length, get_or, take, drop, sym, ◌∙◌, ap, subst, inl, inr, append_assoc, append-nil, ◌⊎◌, Bool, true, false, refl, true≢false, if◌then◌else◌, Some, slice_get}
use Rattle.std.proofs.Math.Seq.{take-length}
use Rattle.std.proofs.lemmas.List.Elements.{Contains-append_left, Contains-append_cases, Contains-push, Contains-push_cases}
use Rattle.std.proofs.lemmas.List.{take_more, take-append-le, take-append-drop, length-append}
use Rattle.std.proofs.lemmas.Option.{slice_get-get_or, slice_get_within, get_or_from_slice_get}
use Rattle.std.proofs.lemmas.Map.Keys.{apart_from_distinct}
use Rattle.indexmap.specs.IndexSet.{insert_key}
use Rattle.std.specs.List.{list_any, IsDistinct}
use Rattle.indexmap.proofs.CallerLemmas.{Contains-insert_key}
use Rattle.least_set.specs.Logs.{IsExactly, IsOnce, InOrder, BeginsWith, SomeGives, Adds}

pub below_or : (i j : ℕ) → (i < j) ⊎ (j ≤ i)
below_or i zero = inr (omega arith)
below_or zero (suc j) = inl (omega arith)
below_or (suc i) (suc j) = elim (below_or i j) [ inl h ↦ inl (omega arith) | inr h ↦ inr (omega arith) ]

pub before_or_at : (i j : ℕ) → j < i + 1 → (j < i) ⊎ (j ≡ i)
before_or_at i j h = elim (below_or j i) [ inl b ↦ inl b | inr b ↦ inr (omega arith) ]

module _ {M : Type 0} where
  pub nothing : (c : M) → Contains {X = M} [] c → ⊥
  nothing c w = omega (arith, w.1)

  -- a value of a list has a place
  pub place_of : (xs : List M) (c : M) → Contains xs c → (j : ℕ) × (j < length xs) × (slice_get xs j ≡ Some c)
  place_of xs c w = (w.0, w.1, slice_get-get_or xs w.0 c w.1 ∙ ap Some w.2)

  pub at_place : (xs : List M) (j : ℕ) (c : M) → slice_get xs j ≡ Some c → Contains xs c
  at_place xs j c e = (j, slice_get_within xs j c e, get_or_from_slice_get xs j c c e)

  pub same_place : (xs ys : List M) (j : ℕ) → j < length xs → slice_get (xs ++ ys) j ≡ slice_get xs j
  same_place [] ys j h = absurd (omega arith)
  same_place (x ∷ xs) ys zero h = refl
  same_place (x ∷ xs) ys (suc j) h = same_place xs ys j (omega arith)

  later_place : (xs ys : List M) (j k : ℕ) → j ≡ length xs + k → slice_get (xs ++ ys) j ≡ slice_get ys k
  later_place [] ys j k e = let same : j ≡ k = omega arith in ap (slice_get ys) same
  later_place (x ∷ xs) ys zero k e = absurd (omega arith)
  later_place (x ∷ xs) ys (suc j) k e = later_place xs ys j k (omega arith)

  pub in_take : (xs : List M) (i j : ℕ) (c : M) → j < i → slice_get xs j ≡ Some c → Contains (take i xs) c
  in_take xs i j c h e = at_place (take i xs) j c (by xs i j h ∙ e)
    where
      by : (xs : List M) (i j : ℕ) → j < i → slice_get (take i xs) j ≡ slice_get xs j
      by [] zero j h = refl
      by [] (suc i) j h = refl
      by (x ∷ xs) zero j h = absurd (omega arith)
      by (x ∷ xs) (suc i) zero h = refl
      by (x ∷ xs) (suc i) (suc j) h = by xs i j (omega arith)

  pub whole_of_take : (i : ℕ) (xs : List M) (c : M) → Contains (take i xs) c → Contains xs c
  whole_of_take i xs c w = subst (λ l. Contains l c) (take-append-drop i xs) (Contains-append_left (take i xs) (drop i xs) c w)

  pub adds_none : {P : M → Type 0} (old : List M) → ((c : M) → P c → ⊥) → Adds P old old
  adds_none old none = record { more = []; whole = sym (append-nil old); added = λ c w. absurd (none c w); only = λ c w. absurd (nothing c w) }

  -- what was there stays, at its place
  pub kept : {P : M → Type 0} {old new : List M} → Adds P old new → (c : M) → Contains old c → Contains new c
  kept {old = old} w c e = subst (λ y. Contains y c) (sym w.whole) (Contains-append_left old w.more c e)

  pub stays : {P : M → Type 0} {old new : List M} → Adds P old new → (j : ℕ) → j < length old → slice_get new j ≡ slice_get old j
  stays {old = old} w j h = ap (λ l. slice_get l j) w.whole ∙ same_place old w.more j h

  pub not_shorter : {P : M → Type 0} {old new : List M} → Adds P old new → length old ≤ length new
  not_shorter {old = old} w = omega (arith, ap length w.whole, length-append old w.more)

  pub take_stays : {P : M → Type 0} {old new : List M} → Adds P old new → (i : ℕ) → i ≤ length old → take i new ≡ take i old
  take_stays {old = old} w i h = ap (take i) w.whole ∙ take-append-le i old w.more h

  -- and what is there was there, or is of those that came
  pub either : {P : M → Type 0} {old new : List M} → Adds P old new → (c : M) → Contains new c → Contains old c ⊎ P c
  either {old = old} w c e = elim (Contains-append_cases old w.more c (subst (λ l. Contains l c) w.whole e)) [ inl o ↦ inl o | inr p ↦ inr (w.only c p) ]

  pub late : {P : M → Type 0} {old new : List M} (w : Adds P old new) (j : ℕ) (c : M) → length old ≤ j → slice_get new j ≡ Some c → Contains w.more c
  late {old = old} w j c h e =
      let k : j ≡ length old + (j - length old) = omega arith in
      at_place w.more (j - length old) c (sym (later_place old w.more j (j - length old) k) ∙ ap (λ l. slice_get l j) (sym w.whole) ∙ e)

  -- one after the other
  pub adds_both : {P Q R : M → Type 0} {old mid new : List M} → Adds P old mid → Adds Q mid new
      → ((c : M) → R c → P c ⊎ Q c) → ((c : M) → P c → R c) → ((c : M) → Q c → R c) → Adds R old new
  adds_both {old = old} v w split left right = record {
    more = v.more ++ w.more;
    whole = w.whole ∙ ap (λ y. y ++ w.more) v.whole ∙ append_assoc old v.more w.more;
    added = λ c r. elim (split c r) [ inl p ↦ kept w c (v.added c p) | inr q ↦ w.added c q ];
    only = λ c e. elim (Contains-append_cases v.more w.more c e) [ inl p ↦ left c (v.only c p) | inr q ↦ right c (w.only c q) ];
  }

  -- the same, said otherwise
  pub adds_same : {P Q : M → Type 0} {old new : List M} → Adds P old new → ((c : M) → P c → Q c) → ((c : M) → Q c → P c) → Adds Q old new
  adds_same w to from = record {
    more = w.more;
    whole = w.whole;
    added = λ c q. w.added c (from c q);
    only = λ c e. to c (w.only c e);
  }

  pub adds_exactly : {P : M → Type 0} (items : List M) {old new : List M} → Adds (Contains items) old new → IsExactly items P → Adds P old new
  adds_exactly items w x = adds_same w x.0 x.1

  -- an insert into a set adds the one
  pub adds_one : (eq : M → M → Bool) → ((x y : M) → eq x y ≡ true → x ≡ y) → (old : List M) (x : M) → Adds (λ c. x ≡ c) old (insert_key eq old x)
  adds_one eq same old x = by (list_any (eq x) old) refl
    where
      by : (b : Bool) → list_any (eq x) old ≡ b → Adds (λ c. x ≡ c) old (insert_key eq old x)
      by true e = record {
        more = [];
        whole = ap (λ b. if b then old else old ++ x ∷ []) e ∙ sym (append-nil old);
        added = λ c d. subst (Contains (insert_key eq old x)) d (Contains-insert_key eq same old x);
        only = λ c w. absurd (nothing c w);
      }
      by false e = record {
        more = x ∷ [];
        whole = ap (λ b. if b then old else old ++ x ∷ []) e;
        added = λ c d. subst (Contains (insert_key eq old x)) d (Contains-insert_key eq same old x);
        only = λ c w. elim (Contains-push_cases [] x c w) [ inl o ↦ absurd (nothing c o) | inr d ↦ d ];
      }

  -- no two places of a list of different values have the same
  pub once : (eq : M → M → Bool) → ((x : M) → eq x x ≡ true) → (xs : List M) → IsDistinct eq xs → IsOnce xs
  once eq itself xs u i j c a b = elim (below_or i j) [
    | inl h ↦ absurd (apart i j h a b)
    | inr h ↦ elim (below_or j i) [ inl k ↦ absurd (apart j i k b a) | inr k ↦ omega arith ]
  ]
    where
      apart : (i j : ℕ) → i < j → slice_get xs i ≡ Some c → slice_get xs j ≡ Some c → ⊥
      apart i j h a b =
          let x = get_or_from_slice_get xs i c c a in
          let y = get_or_from_slice_get xs j c c b in
          let e : eq (get_or xs i c) (get_or xs j c) ≡ true = ap (eq (get_or xs i c)) y ∙ ap (λ z. eq z c) x ∙ itself c in
          true≢false (sym e ∙ apart_from_distinct eq xs i j c u h (slice_get_within xs j c b))

  -- what a log begins with
  pub begins_empty : {P : M → Type 0} (log : List M) → Adds P [] log → BeginsWith P log
  begins_empty {P = P} log w = record {
    count = length log;
    within = omega arith;
    exact = subst (λ l. IsExactly l P) (sym (take-length log)) (λ c e. elim (either w c e) [ inl o ↦ absurd (nothing c o) | inr p ↦ p ], w.added);
  }

  -- the log still begins so
  pub begins_more : {P Q : M → Type 0} {old new : List M} → Adds Q old new → BeginsWith P old → BeginsWith P new
  begins_more {P = P} {old = old} {new = new} w b = record {
    count = b.count;
    within = omega (arith, b.within, not_shorter w);
    exact = subst (λ l. IsExactly l P) (sym (take_stays w b.count b.within)) b.exact;
  }

-- one more value of a list has given what it gives
module _ {M T : Type 0} (G : T → M → Type 0) where
  pub adds_nothing : (old : List M) → Adds (SomeGives G []) old old
  adds_nothing old = adds_none old (λ c s. nothing s.0 s.1)

  pub adds_more : (xs : List T) (x : T) {old mid new : List M} → Adds (SomeGives G xs) old mid → Adds (G x) mid new → Adds (SomeGives G (xs ++ x ∷ [])) old new
  adds_more xs x v w = adds_both {R = SomeGives G (xs ++ x ∷ [])} v w
      (λ c s. elim (Contains-push_cases xs x s.0 s.1) [ inl o ↦ inl (s.0, o, s.2) | inr q ↦ inr (subst (λ y. G y c) (sym q) s.2) ])
      (λ c s. (s.0, Contains-append_left xs (x ∷ []) s.0 s.1, s.2))
      (λ c s. (x, Contains-push xs x, s))

  pub adds_next : (xs : List T) (i : ℕ) (d : T) {old mid new : List M} → i < length xs → Adds (SomeGives G (take i xs)) old mid → Adds (G (get_or xs i d)) mid new → Adds (SomeGives G (take (i + 1) xs)) old new
  adds_next xs i d {old = old} {new = new} h v w = subst (λ l. Adds (SomeGives G l) old new) (sym (take_more xs i d h)) (adds_more (take i xs) (get_or xs i d) v w)

module _ {T : Type 0} where
  -- all were gone through
  pub all_of : (P : List T → Type 0) (xs : List T) (i : ℕ) → length xs ≤ i → i ≤ length xs → P (take i xs) → P xs
  all_of P xs i h k p = subst P (ap (λ n. take n xs) the_length ∙ take-length xs) p
    where
      the_length : i ≡ length xs
      the_length = omega arith

module _ {M : Type 0} (Follows : List M → M → Type 0) (mono : (xs ys : List M) → ((a : M) → Contains xs a → Contains ys a) → (c : M) → Follows xs c → Follows ys c) where
  -- what came follows from what was there
  pub order_more : {P : M → Type 0} {old new : List M} → InOrder Follows old → Adds P old new → ((c : M) → P c → Follows old c) → InOrder Follows new
  order_more {old = old} {new = new} v w gives j c e = elim (below_or j (length old)) [
    | inl h ↦ subst (λ l. Follows l c) (sym (take_stays w j (omega arith))) (v j c (sym (stays w j h) ∙ e))
    | inr h ↦ mono old (take j new) (λ a m. let p = place_of old a m in in_take new j p.0 a (omega (arith, p.1)) (stays w p.0 p.1 ∙ p.2)) c (gives c (w.only c (late w j c h e)))
  ]
