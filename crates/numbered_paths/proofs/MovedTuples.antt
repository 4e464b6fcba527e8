-- BEHIND A MOVE: the tuples there are those of the facts to which the event's move gives states.
use Rattle.std.proofs.Common.{◌≡◌, ◌∙◌, inl, inr, refl, sym, subst, ℕ, nat_eq, Bool, true, false, cond, [], ◌∷◌, Contains, Option, Some, true≢false}
use Rattle.std.specs.Prelude.{flat_map}
use Rattle.std.specs.List.{list_any}
use Rattle.std.proofs.lemmas.Bool.{eqb-true, eq-eqb}
use Rattle.std.proofs.lemmas.List.Elements.{Contains-append_left, Contains-append_right, Contains-append_cases}
use Rattle.least_set.proofs.Growing.{nothing}
use Rattle.path_theory.specs.Facts.{Gives, Objects, IfNoObject}
use Rattle.path_theory.specs.FlowGraphs.{FlowGraphs}
use Rattle.path_theory.specs.Model.{Model}
use Rattle.path_theory.specs.Origins.{Origins}
use Rattle.path_theory.proofs.SmallFacts.{if_no_object, some_some}
use Rattle.row_flows.proofs.Lists.{of_flat, the_first, the_one, to_flat}
use Rattle.row_flows.specs.Behind.{given, if_kept, moved, touches, with_object}
use Rattle.row_flows.specs.declared.rows.EventRow.{EventRow}
use Rattle.row_flows.specs.declared.rows.Touched.{Touched}
use Rattle.row_flows.specs.declared.tuples.NumberedTuple.{NumberedTuple}
use Rattle.numbered_paths.proofs.SmallLists.{passing, some_passes}
use Rattle.numbered_paths.proofs.TupleFacts.{bare_fact, given_by_object, gives, no_number, object_fact, one_number, origin, state_of}
use Rattle.numbered_paths.specs.RowParts.{IsMoveOf, IsNumberOf}
use Rattle.numbered_paths.specs.Views.{AreNumbers, IsBare, IsNumbered, IsOf, IsState, Views, fact_at}

-- ---- the tuple that stays, and one that is given

kept : (t : NumberedTuple) (b : Bool) → b ≡ false → Contains (if_kept t b) t
kept t true e = absurd (true≢false e)
kept t false e = the_first t []

is_kept : (t u : NumberedTuple) (b : Bool) → Contains (if_kept t b) u → (b ≡ false) × (t ≡ u)
is_kept t u true h = absurd (nothing u h)
is_kept t u false h = (refl, the_one t u h)

to_given : (t : NumberedTuple) (x : Touched) → x.source ≡ t.object → Contains (given t x) (with_object t x.object)
to_given t x e = subst (λ b. Contains (cond b (with_object t x.object ∷ []) []) (with_object t x.object)) (sym (eq-eqb x.source t.object e)) (the_first (with_object t x.object) [])

is_given : (t u : NumberedTuple) (x : Touched) → Contains (given t x) u → (x.source ≡ t.object) × (with_object t x.object ≡ u)
is_given t u x h = by (nat_eq x.source t.object) refl h
  where
    by : (b : Bool) → nat_eq x.source t.object ≡ b → Contains (cond b (with_object t x.object ∷ []) []) u → (x.source ≡ t.object) × (with_object t x.object ≡ u)
    by true e c = (eqb-true x.source t.object e, the_one (with_object t x.object) u c)
    by false e c = absurd (nothing u c)

module _ (M : Model) (L : Origins M) (A : Objects M) (G : FlowGraphs M) (V : Views M G) (n : ℕ) (f : M.Fn) (e : M.Event) where
  -- A TUPLE BEHIND THE MOVE of another: itself without an object, or of an object with a state that the other's fact gives
  pub data MovesTo (t u : NumberedTuple) : Type 0 where
    StaysBare : t.object ≡ 0 → t.state ≡ 0 → t ≡ u → MovesTo t u
    Carries : (o : M.Obj) → u.global ≡ t.global → V.object n u.object ≡ Some o → IsState M A G V u.state → IfNoObject (fact_at M A G V n t) (A f o)
        → Gives (L.source e o) (fact_at M A G V n t) (V.state u.state) → MovesTo t u

  -- a tuple behind the move of this object with this state
  pub record StandsBehind (row : EventRow) (t : NumberedTuple) (o : M.Obj) (x : Option M.State) : Type 0 where
    pub tuple : NumberedTuple
    pub among : Contains (moved row t) tuple
    pub global : tuple.global ≡ t.global
    pub object : V.object n tuple.object ≡ Some o
    pub state : V.state tuple.state ≡ x
    pub is_state : IsState M A G V tuple.state

  module _ (N : AreNumbers M A G V) (named : V.function n ≡ Some f) (row : EventRow) (m : IsMoveOf M L A G V n f e row) where
    touched_source : (x : Touched) (o : M.Obj) → Contains row.touched.items x → V.object n x.object ≡ Some o → IsNumberOf M L A G V n x.source (L.source e o)
    touched_source x o c h = let s = m.sources x c in subst (λ p. IsNumberOf M L A G V n x.source (L.source e p)) (some_some (V.object n x.object) o s.0 h s.1) s.2

    untouched_keeps : (i : ℕ) (o : M.Obj) → V.object n i ≡ Some o → list_any (touches i) row.touched.items ≡ false → L.source e o ≡ Some o
    untouched_keeps i o h d = elim (m.touched i o h) [
      | inl s ↦ s
      | inr x ↦ absurd (true≢false (sym (some_passes (touches i) row.touched.items x.0 x.1 (eq-eqb x.0.object i x.2)) ∙ d))
    ]

    none_untouched : (i : ℕ) → i ≡ 0 → list_any (touches i) row.touched.items ≡ false
    none_untouched i z = by (list_any (touches i) row.touched.items) refl
      where
        by : (b : Bool) → list_any (touches i) row.touched.items ≡ b → b ≡ false
        by true h =
            let s = passing (touches i) row.touched.items h in
            let o = m.sources s.0 s.1 in
            absurd (no_number M L A G V N n s.0.object o.0 o.1 (eqb-true s.0.object i s.2 ∙ z))
        by false h = refl

    in_moved : (t : NumberedTuple) (x : Touched) → Contains row.touched.items x → x.source ≡ t.object → Contains (moved row t) (with_object t x.object)
    in_moved t x c s = Contains-append_right (if_kept t (list_any (touches t.object) row.touched.items)) (flat_map (given t) row.touched.items) (with_object t x.object)
        (to_flat (given t) row.touched.items (with_object t x.object) (x, c, to_given t x s))

    stays_in_moved : (t : NumberedTuple) → list_any (touches t.object) row.touched.items ≡ false → Contains (moved row t) t
    stays_in_moved t h = Contains-append_left (if_kept t (list_any (touches t.object) row.touched.items)) (flat_map (given t) row.touched.items) t
        (kept t (list_any (touches t.object) row.touched.items) h)

    -- ---- what stands there is right

    stays : (t u : NumberedTuple) → IsNumbered M A G V n t → list_any (touches t.object) row.touched.items ≡ false → t ≡ u → MovesTo t u
    stays t u (IsBare o s) h d = StaysBare o s d
    stays t u (IsOf o a s) h d = subst (MovesTo t) d (Carries o refl a s (if_no_object (fact_at M A G V n t) (N.followed n f t.object o named a))
        (gives M L A G V N n t (L.source e o) (IsOf o a s) (subst (IsNumberOf M L A G V n t.object) (sym (untouched_keeps t.object o a h)) a)))

    carries : (t u : NumberedTuple) (x : Touched) → IsNumbered M A G V n t → Contains row.touched.items x → x.source ≡ t.object → with_object t x.object ≡ u → MovesTo t u
    carries t u x i c s d =
        let o = m.sources x c in
        subst (MovesTo t) d (Carries o.0 refl o.1 (state_of M L A G V N n t i) (if_no_object (fact_at M A G V n t) (N.followed n f x.object o.0 named o.1))
        (gives M L A G V N n t (L.source e o.0) i (subst (λ j. IsNumberOf M L A G V n j (L.source e o.0)) s o.2)))

    pub moved_right : (t u : NumberedTuple) → IsNumbered M A G V n t → Contains (moved row t) u → MovesTo t u
    moved_right t u i c = elim (Contains-append_cases (if_kept t (list_any (touches t.object) row.touched.items)) (flat_map (given t) row.touched.items) u c) [
      | inl a ↦ let b = is_kept t u (list_any (touches t.object) row.touched.items) a in stays t u i b.0 b.1
      | inr a ↦
          let s = of_flat (given t) row.touched.items u a in
          let g = is_given t u s.0 s.2 in
          carries t u s.0 i s.1 g.0 g.1
    ]

    -- ---- and all of it stands there

    pub bare_stays : (t : NumberedTuple) → t.object ≡ 0 → Contains (moved row t) t
    bare_stays t z = stays_in_moved t (none_untouched t.object z)

    -- an object that keeps its state, also where the row gives it to itself
    own_stays : (t : NumberedTuple) (o : M.Obj) → V.object n t.object ≡ Some o → L.source e o ≡ Some o → Contains (moved row t) t
    own_stays t o h d = by (list_any (touches t.object) row.touched.items) refl
      where
        same : (i : ℕ) → i ≡ t.object → with_object t i ≡ t
        same i q = λ j. record { global = t.global; state = t.state; object = q j }

        by : (b : Bool) → list_any (touches t.object) row.touched.items ≡ b → Contains (moved row t) t
        by false a = stays_in_moved t a
        by true a =
            let s = passing (touches t.object) row.touched.items a in
            let q = eqb-true s.0.object t.object s.2 in
            let i = subst (IsNumberOf M L A G V n s.0.source) d (touched_source s.0 o s.1 (subst (λ j. V.object n j ≡ Some o) (sym q) h)) in
            subst (Contains (moved row t)) (same s.0.object q) (in_moved t s.0 s.1 (N.objects n s.0.source t.object o i h))

    begins_followed : (t : NumberedTuple) (o : M.Obj) {x : Option M.State} → IsNumbered M A G V n t → IfNoObject (fact_at M A G V n t) (A f o) → Gives (L.source e o) (fact_at M A G V n t) x → A f o
    begins_followed t o (IsBare z s) a g = subst (λ y. IfNoObject y (A f o)) (bare_fact M L A G V N n t z) a
    begins_followed t o {x = x} (IsOf b h s) a g =
        let w = given_by_object (subst (λ y. Gives (L.source e o) y x) (object_fact M L A G V N n t b h) g) in
        m.followed o b w.0 (N.followed n f t.object b named h)

    pub moved_whole : (t : NumberedTuple) (o : M.Obj) (x : Option M.State) → IsNumbered M A G V n t → IfNoObject (fact_at M A G V n t) (A f o) → Gives (L.source e o) (fact_at M A G V n t) x
        → StandsBehind row t o x
    moved_whole t o x i a g =
        let w = origin M L A G V N n t i g in
        let p = N.numbered n f o named (begins_followed t o i a g) in
        elim (m.touched p.0 o p.1) [
          | inl d ↦
              let h : V.object n t.object ≡ Some o = subst (IsNumberOf M L A G V n t.object) d w.0 in
              record { tuple = t; among = own_stays t o h d; global = refl; object = h; state = w.1; is_state = state_of M L A G V N n t i }
          | inr y ↦
              let h : V.object n y.0.object ≡ Some o = subst (λ j. V.object n j ≡ Some o) (sym y.2) p.1 in
              record {
                tuple = with_object t y.0.object;
                among = in_moved t y.0 y.1 (one_number M L A G V N n (L.source e o) y.0.source t.object (touched_source y.0 o y.1 h) w.0);
                global = refl;
                object = h;
                state = w.1;
                is_state = state_of M L A G V N n t i;
              }
        ]
