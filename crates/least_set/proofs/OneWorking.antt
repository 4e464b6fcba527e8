-- What is kept while a log is worked off under rules of one premise.
use Rattle.std.proofs.Common.{◌≡◌, ℕ, ◌+◌, ◌<◌, ◌≤◌, arith, List, [], Contains, Some, length, sym, ◌∙◌, ap, subst, inl, inr, slice_get}
use Rattle.std.proofs.lemmas.Option.{same_Some}
use Rattle.least_set.specs.Logs.{Adds, BeginsWith, InOrder}
use Rattle.least_set.specs.OnePremise.{Follows, FollowsBase, FollowsOne, Least, LeastBase, LeastOne}
use Rattle.least_set.proofs.Growing.{nothing, place_of, at_place, stays, kept, either, whole_of_take, begins_empty, begins_more, order_more, before_or_at}

module _ {M : Type 0} (Base : M → Type 0) (Goes : M → M → Type 0) where
  mono : (xs ys : List M) → ((a : M) → Contains xs a → Contains ys a) → (c : M) → Follows Base Goes xs c → Follows Base Goes ys c
  mono xs ys f c (FollowsBase b) = FollowsBase b
  mono xs ys f c (FollowsOne a m s) = FollowsOne a (f a m) s

  least_of : (xs : List M) → ((a : M) → Contains xs a → Least Base Goes a) → (c : M) → Follows Base Goes xs c → Least Base Goes c
  least_of xs f c (FollowsBase b) = LeastBase b
  least_of xs f c (FollowsOne a m s) = LeastOne (f a m) s

  -- The values before i are worked off.
  pub record Works (i : ℕ) (log : List M) : Type 0 where
    pub order : InOrder (Follows Base Goes) log
    pub only : (c : M) → Contains log c → Least Base Goes c
    pub first : BeginsWith Base log
    pub gone : (j : ℕ) (a c : M) → j < i → slice_get log j ≡ Some a → Goes a c → Contains log c

  pub works_begin : (log : List M) → Adds Base [] log → Works 0 log
  works_begin log w = record {
    order = order_more (Follows Base Goes) mono (λ j c e. absurd (nothing c (at_place [] j c e))) w (λ c b. FollowsBase b);
    only = λ c m. elim (either w c m) [ inl o ↦ absurd (nothing c o) | inr b ↦ LeastBase b ];
    first = begins_empty log w;
    gone = λ j a c h e s. absurd (omega (arith, h));
  }

  pub works_more : (i : ℕ) (e : M) (old new : List M) → Works i old → i < length old → slice_get old i ≡ Some e → Adds (Goes e) old new → Works (i + 1) new
  works_more i e old new v h is w = record {
    order = order_more (Follows Base Goes) mono v.order w follows;
    only = λ c m. elim (either w c m) [ inl o ↦ v.only c o | inr s ↦ least_of old v.only c (follows c s) ];
    first = begins_more w v.first;
    gone = λ j a c k at s. elim (before_or_at i j k) [
      | inl b ↦ kept w c (v.gone j a c b (sym (stays w j (omega arith)) ∙ at) s)
      | inr q ↦ w.added c (subst (λ y. Goes y c) (same_Some _ _ (sym at ∙ ap (slice_get new) q ∙ stays w i h ∙ is)) s)
    ];
  }
    where
      follows : (c : M) → Goes e c → Follows Base Goes old c
      follows c s = FollowsOne e (at_place old i e is) s

  -- once all are worked off, nothing follows that isn't there
  pub works_all : (i : ℕ) (log : List M) → Works i log → length log ≤ i → (c : M) → Follows Base Goes log c → Contains log c
  works_all i log v h c (FollowsBase b) = whole_of_take v.first.count log c (v.first.exact.1 c b)
  works_all i log v h c (FollowsOne a m s) = let p = place_of log a m in v.gone p.0 a c (omega (arith, p.1)) p.2 s
