-- A set of tuples that goes over the events of a block: what the tuple at the head leads to is what those lead to over the events that are left.
use Rattle.std.proofs.Common.{◌≡◌, ◌∙◌, ◌⊎◌, inl, inr, refl, sym, ap, subst, ℕ, ◌+◌, Bool, true, List, [], ◌∷◌, ◌++◌, Contains, append-nil, arith}
use Rattle.std.specs.Prelude.{flat_map}
use Rattle.std.specs.List.{list_all}
use Rattle.std.proofs.lemmas.List.Elements.{Contains-append_left, Contains-append_right, Contains-append_cases}
use Rattle.least_set.specs.Logs.{IsExactly, SomeGives}
use Rattle.least_set.specs.Ways.Same.{both}
use Rattle.least_set.proofs.Growing.{nothing}
use Rattle.row_flows.specs.Behind.{behind, firings}
use Rattle.row_flows.specs.Calm.{are_calm, is_calm}
use Rattle.row_flows.specs.Crossing.{ends, shown}
use Rattle.row_flows.specs.declared.behind.Firing.{Firing}
use Rattle.row_flows.specs.declared.rows.EventRow.{EventRow}
use Rattle.row_flows.specs.declared.tuples.NumberedTuple.{NumberedTuple}
use Rattle.row_flows.proofs.Lists.{of_flat, the_one, to_flat}
use Rattle.row_flows.proofs.LeftCalm.{calm_behind, calm_firings}

module _ (is_root : Bool) (own : List Bool) (rows : List EventRow) (t : NumberedTuple) where
  -- these stand before the events that are left, the first of which has this number; what was noted and what they will show is all
  pub record OnTheWay (left : List EventRow) (event : ℕ) (now : List NumberedTuple) (found : List Firing) : Type 0 where
    pub real : (u : NumberedTuple) → SomeGives (λ v. Contains (ends left is_root own v)) now u → Contains (ends rows is_root own t) u
    pub whole : (u : NumberedTuple) → Contains (ends rows is_root own t) u → SomeGives (λ v. Contains (ends left is_root own v)) now u
    pub noted : (x : Firing) → Contains found x → Contains (shown 0 rows is_root own t) x
    pub coming : (x : Firing) → SomeGives (λ v. Contains (shown event left is_root own v)) now x → Contains (shown 0 rows is_root own t) x
    pub all : (x : Firing) → Contains (shown 0 rows is_root own t) x → Contains found x ⊎ SomeGives (λ v. Contains (shown event left is_root own v)) now x

  pub begins : OnTheWay rows 0 (t ∷ []) []
  begins = record {
    real = λ u s. subst (λ v. Contains (ends rows is_root own v) u) (sym (the_one t s.0 s.1)) s.2;
    whole = λ u h. (t, (0, omega arith, refl), h);
    noted = λ x h. absurd (nothing x h);
    coming = λ x s. subst (λ v. Contains (shown 0 rows is_root own v) x) (sym (the_one t s.0 s.1)) s.2;
    all = λ x h. inr (t, (0, omega arith, refl), h);
  }

  module _ (row : EventRow) (left : List EventRow) (event : ℕ) (now : List NumberedTuple) (found : List Firing) (way : OnTheWay (row ∷ left) event now found) where
    -- ONE EVENT FURTHER
    pub goes_on : (next : List NumberedTuple) (more : List Firing) → IsExactly next (SomeGives (λ v. Contains (behind row is_root own v)) now) → more ≡ found ++ flat_map (firings event row is_root own) now
        → OnTheWay left (event + 1) next more
    goes_on next more exact e =
        let B = behind row is_root own in
        let S = shown (event + 1) left is_root own in
        let F = firings event row is_root own in record {
          real = λ u s. let b = exact.0 s.0 s.1 in way.real u (b.0, b.1, to_flat (ends left is_root own) (B b.0) u (s.0, b.2, s.2));
          whole = λ u h. let s = way.whole u h in let b = of_flat (ends left is_root own) (B s.0) u s.2 in (b.0, exact.1 b.0 (s.0, s.1, b.1), b.2);
          noted = λ x h. elim (Contains-append_cases found (flat_map F now) x (subst (λ l. Contains l x) e h)) [
            | inl a ↦ way.noted x a
            | inr b ↦ let s = of_flat F now x b in way.coming x (s.0, s.1, Contains-append_left (F s.0) (flat_map S (B s.0)) x s.2)
          ];
          coming = λ x s. let b = exact.0 s.0 s.1 in way.coming x (b.0, b.1, Contains-append_right (F b.0) (flat_map S (B b.0)) x (to_flat S (B b.0) x (s.0, b.2, s.2)));
          all = λ x h. elim (way.all x h) [
            | inl a ↦ inl (subst (λ l. Contains l x) (sym e) (Contains-append_left found (flat_map F now) x a))
            | inr s ↦ elim (Contains-append_cases (F s.0) (flat_map S (B s.0)) x s.2) [
              | inl f ↦ inl (subst (λ l. Contains l x) (sym e) (Contains-append_right found (flat_map F now) x (to_flat F now x (s.0, s.1, f))))
              | inr g ↦ let b = of_flat S (B s.0) x g in inr (b.0, exact.1 b.0 (s.0, s.1, b.1), b.2)
            ]
          ];
        }

    -- ONE THAT LEAVES THEM CALM is passed
    pub passes : are_calm row now ≡ true → OnTheWay left (event + 1) now found
    passes calm = goes_on now found (exactly now calm) (sym (ap (λ l. found ++ l) (silent now calm) ∙ append-nil found))
      where
        silent : (ts : List NumberedTuple) → are_calm row ts ≡ true → flat_map (firings event row is_root own) ts ≡ []
        silent [] h = refl
        silent (u ∷ us) h =
            let k = both (is_calm row u.object) (list_all (λ (v : NumberedTuple). is_calm row v.object) us) h in
            ap (λ l. l ++ flat_map (firings event row is_root own) us) (calm_firings row is_root own u k.0 event) ∙ silent us k.1

        alone : (ts : List NumberedTuple) → are_calm row ts ≡ true → flat_map (behind row is_root own) ts ≡ ts
        alone [] h = refl
        alone (u ∷ us) h =
            let k = both (is_calm row u.object) (list_all (λ (v : NumberedTuple). is_calm row v.object) us) h in
            ap (λ l. l ++ flat_map (behind row is_root own) us) (calm_behind row is_root own u k.0) ∙ ap (λ l. u ∷ l) (alone us k.1)

        exactly : (ts : List NumberedTuple) → are_calm row ts ≡ true → IsExactly ts (SomeGives (λ v. Contains (behind row is_root own v)) ts)
        exactly ts h = (
          λ u m. of_flat (behind row is_root own) ts u (subst (λ l. Contains l u) (sym (alone ts h)) m),
          λ u s. subst (λ l. Contains l u) (alone ts h) (to_flat (behind row is_root own) ts u s),
        )

  -- AT THE END
  pub ended : (event : ℕ) (now : List NumberedTuple) (found : List Firing) → OnTheWay [] event now found
      → IsExactly now (Contains (ends rows is_root own t)) × IsExactly found (Contains (shown 0 rows is_root own t))
  ended event now found way = (
    (
      λ u h. way.real u (u, h, (0, omega arith, refl)),
      λ u h. let s = way.whole u h in subst (Contains now) (the_one s.0 u s.2) s.1,
    ),
    (
      way.noted,
      λ x h. elim (way.all x h) [ inl a ↦ a | inr s ↦ absurd (nothing x s.2) ],
    ),
  )
