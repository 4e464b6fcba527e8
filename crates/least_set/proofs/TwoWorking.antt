-- What is kept while a log is worked off under rules of one and of two premises.
use Rattle.std.proofs.Common.{◌≡◌, ℕ, ◌+◌, ◌<◌, ◌≤◌, arith, List, [], Contains, Some, length, sym, ◌∙◌, ap, subst, inl, inr, slice_get}
use Rattle.std.proofs.lemmas.Option.{same_Some}
use Rattle.least_set.specs.Logs.{Adds, BeginsWith, InOrder}
use Rattle.least_set.specs.Indexes.{AllBelow}
use Rattle.least_set.specs.TwoPremises.{Follows, FollowsBase, FollowsOne, FollowsTwo, Least, LeastBase, LeastOne, LeastTwo, Met, Gives, GivesNext, GivesAnswer, GivesWoken, Processed}
use Rattle.least_set.proofs.Growing.{nothing, place_of, at_place, stays, kept, either, whole_of_take, begins_empty, begins_more, order_more, before_or_at}

module _ {M K W : Type 0} (Base : M → Type 0) (Goes : M → M → Type 0) (Waits : M → K → W → Type 0) (Ends : M → K → Type 0) (Wakes : W → M → M → Type 0) where
  abbrev F : List M → M → Type 0
  F = Follows Base Goes Waits Ends Wakes

  abbrev L : M → Type 0
  L = Least Base Goes Waits Ends Wakes

  mono : (xs ys : List M) → ((a : M) → Contains xs a → Contains ys a) → (c : M) → F xs c → F ys c
  mono xs ys f c (FollowsBase b) = FollowsBase b
  mono xs ys f c (FollowsOne a m s) = FollowsOne a (f a m) s
  mono xs ys f c (FollowsTwo a b k w m q n l s) = FollowsTwo a b k w (f a m) q (f b n) l s

  least_of : (xs : List M) → ((a : M) → Contains xs a → L a) → (c : M) → F xs c → L c
  least_of xs f c (FollowsBase b) = LeastBase b
  least_of xs f c (FollowsOne a m s) = LeastOne (f a m) s
  least_of xs f c (FollowsTwo a b k w m q n l s) = LeastTwo (f a m) q (f b n) l s

  -- The values before i are worked off.
  pub record Works (i : ℕ) (log : List M) (waiting : K → List W) (ended : K → List ℕ) : Type 0 where
    pub order : InOrder F log
    pub only : (c : M) → Contains log c → L c
    pub first : BeginsWith Base log
    -- what each gives alone is there
    pub gone : (j : ℕ) (a c : M) → j < i → slice_get log j ≡ Some a → Goes a c → Contains log c
    -- the index has their waiters, and no others
    pub kept_waiters : (j : ℕ) (a : M) (k : K) (w : W) → j < i → slice_get log j ≡ Some a → Waits a k w → Contains (waiting k) w
    pub waits : (k : K) (w : W) → Contains (waiting k) w → (j : ℕ) × (a : M) × (j < i) × (slice_get log j ≡ Some a) × Waits a k w
    -- and those of them that are ends
    pub kept_ends : (j : ℕ) (b : M) (k : K) → j < i → slice_get log j ≡ Some b → Ends b k → Contains (ended k) j
    pub ends : (k : K) (j : ℕ) → Contains (ended k) j → (j < i) × ((b : M) → slice_get log j ≡ Some b → Ends b k)
    -- a waiter and an end that met were combined
    pub met : (k : K) (w : W) (j : ℕ) (c : M) → Contains (waiting k) w → Contains (ended k) j → Met Wakes log w j c → Contains log c

  pub works_begin : (log : List M) (waiting : K → List W) (ended : K → List ℕ) → Adds Base [] log → ((k : K) → waiting k ≡ []) → ((k : K) → ended k ≡ []) → Works 0 log waiting ended
  works_begin log waiting ended a p q = record {
    order = order_more F mono (λ j c e. absurd (nothing c (at_place [] j c e))) a (λ c b. FollowsBase b);
    only = λ c m. elim (either a c m) [ inl o ↦ absurd (nothing c o) | inr b ↦ LeastBase b ];
    first = begins_empty log a;
    gone = λ j a c h e s. absurd (omega (arith, h));
    kept_waiters = λ j a k w h e s. absurd (omega (arith, h));
    waits = λ k w m. absurd (nothing w (subst (λ l. Contains l w) (p k) m));
    kept_ends = λ j b k h e s. absurd (omega (arith, h));
    ends = λ k j m. absurd (nothing j (subst (λ l. Contains l j) (q k) m));
    met = λ k w j c m n s. absurd (nothing w (subst (λ l. Contains l w) (p k) m));
  }

  module _ (i : ℕ) (e : M) (old new : List M) (W₀ W₁ : K → List W) (D₀ D₁ : K → List ℕ) where
    pub works_more : Works i old W₀ D₀ → i < length old → slice_get old i ≡ Some e → Processed Goes Waits Ends Wakes i e old new W₀ W₁ D₀ D₁ → Works (i + 1) new W₁ D₁
    works_more v h is p = record {
      order = order_more F mono v.order p.members follows;
      only = λ c m. elim (either p.members c m) [ inl o ↦ v.only c o | inr g ↦ least_of old v.only c (follows c g) ];
      first = begins_more p.members v.first;
      gone = λ j a c k at s. elim (before_or_at i j k) [
        | inl b ↦ kept p.members c (v.gone j a c b (was j a b at) s)
        | inr q ↦ p.members.added c (GivesNext (subst (λ y. Goes y c) (here j a q at) s))
      ];
      kept_waiters = λ j a k w l at s. elim (before_or_at i j l) [
        | inl b ↦ p.waiters.kept k w (v.kept_waiters j a k w b (was j a b at) s)
        | inr q ↦ p.waiters.added k w (subst (λ y. Waits y k w) (here j a q at) s)
      ];
      waits = λ k w m. elim (p.waiters.only k w m) [
        | inl o ↦ let n = v.waits k w o in (n.0, n.1, omega (arith, n.2), stays p.members n.0 (omega (arith, n.2)) ∙ n.3, n.4)
        | inr q ↦ (i, e, omega arith, stays p.members i h ∙ is, q)
      ];
      kept_ends = λ j b k l at s. elim (before_or_at i j l) [
        | inl o ↦ p.ends.kept k j (v.kept_ends j b k o (was j b o at) s)
        | inr q ↦ p.ends.added k j (subst (λ y. Ends y k) (here j b q at) s, sym q)
      ];
      ends = λ k j m. elim (p.ends.only k j m) [
        | inl o ↦ let n = v.ends k j o in (omega (arith, n.0), λ b at. n.1 b (was j b n.0 at))
        | inr q ↦ (omega (arith, q.1), λ b at. subst (λ y. Ends y k) (sym (here j b (sym q.1) at)) q.0)
      ];
      met = λ k w j c m n s. elim (p.ends.only k j n) [
        | inl o ↦ let x = was j s.0 (v.ends k j o).0 s.1 in elim (p.waiters.only k w m) [
          | inl r ↦ kept p.members c (v.met k w j c r o (s.0, x, s.2))
          | inr r ↦ p.members.added c (GivesAnswer k w j r o (s.0, x, s.2))
        ]
        | inr q ↦ p.members.added c (GivesWoken k w q.0 m (subst (λ y. Wakes w y c) (here j s.0 (sym q.1) s.1) s.2))
      ];
    }
      where
        was : (j : ℕ) (a : M) → j < i → slice_get new j ≡ Some a → slice_get old j ≡ Some a
        was j a k at = sym (stays p.members j (omega arith)) ∙ at

        here : (j : ℕ) (a : M) → j ≡ i → slice_get new j ≡ Some a → a ≡ e
        here j a q at = same_Some _ _ (sym at ∙ ap (slice_get new) q ∙ stays p.members i h ∙ is)

        in_old : Contains old e
        in_old = at_place old i e is

        follows : (c : M) → Gives Goes Waits Ends Wakes old W₁ D₀ e c → F old c
        follows c (GivesNext s) = FollowsOne e in_old s
        follows c (GivesAnswer k w j q m s) = FollowsTwo e s.0 k w in_old q (at_place old j s.0 s.1) ((v.ends k j m).1 s.0 s.1) s.2
        follows c (GivesWoken k w l m s) = elim (p.waiters.only k w m) [
          | inl o ↦ let n = v.waits k w o in FollowsTwo n.1 e k w (at_place old n.0 n.1 n.3) n.4 in_old l s
          | inr q ↦ FollowsTwo e e k w in_old q in_old l s
        ]

  pub below : (i : ℕ) (log : List M) (waiting : K → List W) (ended : K → List ℕ) → Works i log waiting ended → i ≤ length log → AllBelow (length log) ended
  below i log waiting ended v h k j m = omega (arith, (v.ends k j m).0)

  -- once all are worked off, nothing follows that isn't there
  pub works_all : (i : ℕ) (log : List M) (waiting : K → List W) (ended : K → List ℕ) → Works i log waiting ended → length log ≤ i → (c : M) → F log c → Contains log c
  works_all i log waiting ended v h c (FollowsBase b) = whole_of_take v.first.count log c (v.first.exact.1 c b)
  works_all i log waiting ended v h c (FollowsOne a m s) = let p = place_of log a m in v.gone p.0 a c (omega (arith, p.1)) p.2 s
  works_all i log waiting ended v h c (FollowsTwo a b k w m q n l s) =
      let x = place_of log a m in
      let y = place_of log b n in
      v.met k w y.0 c (v.kept_waiters x.0 a k w (omega (arith, x.1)) x.2 q) (v.kept_ends y.0 b k (omega (arith, y.1)) y.2 l) (b, y.2, s)
