-- ROWS ONE BY ONE stand for the events of a block, where each stands for its event.
use Rattle.std.proofs.Common.{◌≡◌, ◌⊎◌, inl, inr, refl, sym, subst, ℕ, ◌+◌, arith, Bool, List, [], ◌∷◌, Contains}
use Rattle.std.specs.Prelude.{flat_map}
use Rattle.std.proofs.lemmas.List.Elements.{Contains-append_left, Contains-append_right, Contains-append_cases}
use Rattle.least_set.proofs.Growing.{nothing}
use Rattle.path_theory.specs.BlockEdges.{Crosses, CrossesNone, CrossesOne, Shows, ShowsObject, ShowsGlobal, ShowsLater}
use Rattle.path_theory.specs.Facts.{Fact, Objects}
use Rattle.path_theory.specs.FlowGraphs.{FlowGraphs}
use Rattle.path_theory.specs.Flows.{EventFlow}
use Rattle.path_theory.specs.Model.{Model}
use Rattle.path_theory.specs.Origins.{Origins}
use Rattle.row_flows.proofs.Lists.{of_flat, the_one, to_flat}
use Rattle.row_flows.specs.Behind.{behind, firings}
use Rattle.row_flows.specs.Crossing.{ends, shown}
use Rattle.row_flows.specs.declared.behind.Firing.{Firing}
use Rattle.row_flows.specs.declared.rows.EventRow.{EventRow}
use Rattle.row_flows.specs.declared.tuples.NumberedTuple.{NumberedTuple}
use Rattle.numbered_paths.specs.Rows.{AreRows, ShowsAlone, ShowsHere, ShowsOf, StandFor}
use Rattle.numbered_paths.specs.Views.{IsNumbered, Views, fact_at}

module _ (M : Model) (L : Origins M) (A : Objects M) (G : FlowGraphs M) (V : Views M G) (n : ℕ) (f : M.Fn) (k : Bool) where
  -- ---- the first event of a list, and the others

  none_crossed : {g i : M.Global} {t v : Fact M} → Crosses M L A f k [] g t i v → (g ≡ i) × (t ≡ v)
  none_crossed CrossesNone = (refl, refl)

  first_crossed : {e : M.Event} {es : List M.Event} {g i : M.Global} {t v : Fact M} → Crosses M L A f k (e ∷ es) g t i v
      → (u : Fact M) × EventFlow M L A f k e g t u × Crosses M L A f k es (M.next_global e f k g) u i v
  first_crossed (CrossesOne {u = u} w c) = (u, w, c)

  none_shown : {r : M.Report} {g : M.Global} {t : Fact M} → Shows M L A f k r [] g t → ⊥
  none_shown c = elim c [ ]

  shown_here : {r : M.Report} {e : M.Event} {es : List M.Event} {g : M.Global} {t : Fact M} → ShowsHere M L A G V f k r e g t → Shows M L A f k r (e ∷ es) g t
  shown_here (ShowsOf o x a w h) = ShowsObject o x a w h
  shown_here (ShowsAlone h) = ShowsGlobal h

  first_shown : {r : M.Report} {e : M.Event} {es : List M.Event} {g : M.Global} {t : Fact M} → Shows M L A f k r (e ∷ es) g t
      → ShowsHere M L A G V f k r e g t ⊎ ((u : Fact M) × EventFlow M L A f k e g t u × Shows M L A f k r es (M.next_global e f k g) u)
  first_shown (ShowsObject o x a w h) = inl (ShowsOf o x a w h)
  first_shown (ShowsGlobal h) = inl (ShowsAlone h)
  first_shown (ShowsLater {u = u} w c) = inr (u, w, c)

  -- ---- by induction over the events

  module _ (own : List Bool) (report : Firing → M.Report → Type 0) where
    ends_cross : (number : ℕ) (es : List M.Event) (rows : List EventRow) → AreRows M L A G V n f k own report number es rows → (t u : NumberedTuple) → IsNumbered M A G V n t
        → Contains (ends rows k own t) u → IsNumbered M A G V n u × Crosses M L A f k es (V.global t.global) (fact_at M A G V n t) (V.global u.global) (fact_at M A G V n u)
    ends_cross number [] [] w t u i h =
        subst (λ v. IsNumbered M A G V n v × Crosses M L A f k [] (V.global t.global) (fact_at M A G V n t) (V.global v.global) (fact_at M A G V n v)) (the_one t u h) (i, CrossesNone)
    ends_cross number [] (row ∷ rows) w t u i h = absurd w
    ends_cross number (e ∷ es) [] w t u i h = absurd w
    ends_cross number (e ∷ es) (row ∷ rows) w t u i h =
        let s = of_flat (ends rows k own) (behind row k own t) u h in
        let a = w.0.sound t s.0 i s.1 in
        let b = ends_cross (number + 1) es rows w.1 s.0 u a.0 s.2 in
        (b.0, CrossesOne a.2 (subst (λ g. Crosses M L A f k es g (fact_at M A G V n s.0) (V.global u.global) (fact_at M A G V n u)) a.1 b.1))

    all_ends : (number : ℕ) (es : List M.Event) (rows : List EventRow) → AreRows M L A G V n f k own report number es rows
        → (t : NumberedTuple) (i : M.Global) (v : Fact M) → IsNumbered M A G V n t → Crosses M L A f k es (V.global t.global) (fact_at M A G V n t) i v
        → (u : NumberedTuple) × Contains (ends rows k own t) u × IsNumbered M A G V n u × (V.global u.global ≡ i) × (fact_at M A G V n u ≡ v)
    all_ends number [] [] w t i v is c = let e = none_crossed c in (t, (0, omega arith, refl), is, e.0, e.1)
    all_ends number [] (row ∷ rows) w t i v is c = absurd w
    all_ends number (e ∷ es) [] w t i v is c = absurd w
    all_ends number (e ∷ es) (row ∷ rows) w t i v is c =
        let a = first_crossed c in
        let b = w.0.whole t a.0 is a.1 in
        let s = w.0.sound t b.0 is b.1 in
        let d = all_ends (number + 1) es rows w.1 b.0 i v s.0 (at_tuple b.0 s.1 b.2 a.2) in
        (d.0, to_flat (ends rows k own) (behind row k own t) d.0 (b.0, b.1, d.1), d.2, d.3, d.4)
      where
        at_tuple : {g : M.Global} {y : Fact M} (u : NumberedTuple) → V.global u.global ≡ g → fact_at M A G V n u ≡ y → Crosses M L A f k es g y i v
            → Crosses M L A f k es (V.global u.global) (fact_at M A G V n u) i v
        at_tuple {g = g} {y = y} u p q d = subst (λ z. Crosses M L A f k es (V.global u.global) z i v) (sym q) (subst (λ z. Crosses M L A f k es z y i v) (sym p) d)

    shown_on_the_way : (number : ℕ) (es : List M.Event) (rows : List EventRow) → AreRows M L A G V n f k own report number es rows
        → (t : NumberedTuple) (x : Firing) (r : M.Report) → IsNumbered M A G V n t → Contains (shown number rows k own t) x → report x r
        → Shows M L A f k r es (V.global t.global) (fact_at M A G V n t)
    shown_on_the_way number [] [] w t x r i h p = absurd (nothing x h)
    shown_on_the_way number [] (row ∷ rows) w t x r i h p = absurd w
    shown_on_the_way number (e ∷ es) [] w t x r i h p = absurd w
    shown_on_the_way number (e ∷ es) (row ∷ rows) w t x r i h p =
        elim (Contains-append_cases (firings number row k own t) (flat_map (shown (number + 1) rows k own) (behind row k own t)) x h) [
          | inl a ↦ shown_here (w.0.reported t x r i a p)
          | inr b ↦
              let s = of_flat (shown (number + 1) rows k own) (behind row k own t) x b in
              let a = w.0.sound t s.0 i s.1 in
              ShowsLater a.2 (subst (λ g. Shows M L A f k r es g (fact_at M A G V n s.0)) a.1 (shown_on_the_way (number + 1) es rows w.1 s.0 x r a.0 s.2 p))
        ]

    all_shown : (number : ℕ) (es : List M.Event) (rows : List EventRow) → AreRows M L A G V n f k own report number es rows
        → (t : NumberedTuple) (r : M.Report) → IsNumbered M A G V n t → Shows M L A f k r es (V.global t.global) (fact_at M A G V n t)
        → (x : Firing) × Contains (shown number rows k own t) x × report x r
    all_shown number [] [] w t r i c = absurd (none_shown c)
    all_shown number [] (row ∷ rows) w t r i c = absurd w
    all_shown number (e ∷ es) [] w t r i c = absurd w
    all_shown number (e ∷ es) (row ∷ rows) w t r i c =
        elim (first_shown c) [
          | inl h ↦
              let a = w.0.noted t r i h in
              (a.0, Contains-append_left (firings number row k own t) (flat_map (shown (number + 1) rows k own) (behind row k own t)) a.0 a.1, a.2)
          | inr a ↦
              let b = w.0.whole t a.0 i a.1 in
              let s = w.0.sound t b.0 i b.1 in
              let d = all_shown (number + 1) es rows w.1 b.0 r s.0 (at_tuple b.0 s.1 b.2 a.2) in (
                d.0,
                Contains-append_right (firings number row k own t) (flat_map (shown (number + 1) rows k own) (behind row k own t)) d.0
                    (to_flat (shown (number + 1) rows k own) (behind row k own t) d.0 (b.0, b.1, d.1)),
                d.2,
              )
        ]
      where
        at_tuple : {g : M.Global} {y : Fact M} (u : NumberedTuple) → V.global u.global ≡ g → fact_at M A G V n u ≡ y → Shows M L A f k r es g y
            → Shows M L A f k r es (V.global u.global) (fact_at M A G V n u)
        at_tuple {g = g} {y = y} u p q d = subst (λ z. Shows M L A f k r es (V.global u.global) z) (sym q) (subst (λ z. Shows M L A f k r es z y) (sym p) d)

    -- THE ROWS OF A BLOCK STAND FOR ITS EVENTS, the first of which has the number 0
    pub rows_stand : (es : List M.Event) (rows : List EventRow) → AreRows M L A G V n f k own report 0 es rows → StandFor M L A G V n f k own report es rows
    rows_stand es rows w = record {
      sound = ends_cross 0 es rows w;
      whole = all_ends 0 es rows w;
      reported = shown_on_the_way 0 es rows w;
      noted = all_shown 0 es rows w;
    }
