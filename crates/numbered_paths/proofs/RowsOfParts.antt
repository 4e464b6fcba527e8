-- A ROW STANDS FOR AN EVENT where its parts do: its move, its choices, and what it notes.
use Rattle.std.proofs.Common.{◌≡◌, ◌∙◌, ◌⊎◌, inl, inr, refl, sym, ap, subst, ℕ, Bool, List, Contains, Option, Some}
use Rattle.least_set.specs.Logs.{SomeGives}
use Rattle.path_theory.specs.Facts.{Fact, NoObject, HasObject, Gives, Objects, IfNoObject}
use Rattle.path_theory.specs.FlowGraphs.{FlowGraphs}
use Rattle.path_theory.specs.Flows.{EventFlow, EventNone, EventObject}
use Rattle.path_theory.specs.Model.{Model}
use Rattle.path_theory.specs.Origins.{Origins}
use Rattle.row_flows.proofs.Lists.{of_flat, of_map, to_flat, to_map}
use Rattle.row_flows.specs.Behind.{behind, chosen, fired, firings, moved}
use Rattle.row_flows.specs.Choices.{next_global, next_state}
use Rattle.row_flows.specs.declared.behind.Firing.{Firing}
use Rattle.row_flows.specs.declared.rows.EventRow.{EventRow}
use Rattle.row_flows.specs.declared.tuples.NumberedTuple.{NumberedTuple}
use Rattle.numbered_paths.proofs.BareChoices.{bare_state}
use Rattle.numbered_paths.proofs.MovedTuples.{Carries, MovesTo, StaysBare, bare_stays, moved_right, moved_whole}
use Rattle.numbered_paths.proofs.TupleFacts.{bare_fact, bare_if, bare_is, if_bare, object_fact}
use Rattle.numbered_paths.specs.RowParts.{IsRowOf}
use Rattle.numbered_paths.specs.Rows.{IsRow, ShowsAlone, ShowsHere, ShowsOf}
use Rattle.numbered_paths.specs.Views.{AreNumbers, IsBare, IsNumbered, IsOf, IsState, Views, fact_at}

-- ---- what flows over an event, and what is shown there, by cases

module _ (M : Model) (L : Origins M) (A : Objects M) (f : M.Fn) (k : Bool) (e : M.Event) (g : M.Global) where
  bare_flows : {t u : Fact M} → t ≡ NoObject → u ≡ NoObject → EventFlow M L A f k e g t u
  bare_flows {t = t} {u = u} a b = subst (λ y. EventFlow M L A f k e g y u) (sym a) (subst (EventFlow M L A f k e g NoObject) (sym b) EventNone)

  -- the object to which it flows, and its state behind the move
  record FlowsBy (t u : Fact M) : Type 0 where
    object : M.Obj
    state : Option M.State
    begins : IfNoObject t (A f object)
    given : Gives (L.source e object) t state
    is : HasObject object (M.choose e f k g object state) ≡ u

  flows_by : {t u : Fact M} → EventFlow M L A f k e g t u → ((t ≡ NoObject) × (NoObject ≡ u)) ⊎ FlowsBy t u
  flows_by EventNone = inl (refl, refl)
  flows_by (EventObject o x a w) = inr (record { object = o; state = x; begins = a; given = w; is = refl })

module _ (M : Model) (L : Origins M) (A : Objects M) (G : FlowGraphs M) (V : Views M G) (f : M.Fn) (k : Bool) (r : M.Report) (e : M.Event) (g : M.Global) where
  -- the object that gives the report, and its state behind the move
  record ShowsBy (t : Fact M) : Type 0 where
    object : M.Obj
    state : Option M.State
    begins : IfNoObject t (A f object)
    given : Gives (L.source e object) t state
    fires : M.Fires e f k g object state r

  shows_by : {t : Fact M} → ShowsHere M L A G V f k r e g t → ((t ≡ NoObject) × M.FiresGlobal e f k g r) ⊎ ShowsBy t
  shows_by (ShowsOf o x a w h) = inr (record { object = o; state = x; begins = a; given = w; fires = h })
  shows_by (ShowsAlone h) = inl (refl, h)

module _ (M : Model) (L : Origins M) (A : Objects M) (G : FlowGraphs M) (V : Views M G) (N : AreNumbers M A G V) (n : ℕ) (f : M.Fn) (named : V.function n ≡ Some f)
    (k : Bool) (own : List Bool) (report : Firing → M.Report → Type 0) (number : ℕ) (e : M.Event) (row : EventRow) (R : IsRowOf M L A G V n f k own report number e row) where
  abbrev fact : NumberedTuple → Fact M
  fact t = fact_at M A G V n t

  -- behind the choices that are made in the global state of t
  abbrev chosen_after : NumberedTuple → NumberedTuple → NumberedTuple
  chosen_after t = chosen row k own (next_global row k own t.global)

  -- ---- tuples

  bare_next : (t : NumberedTuple) → t.object ≡ 0 → t.state ≡ 0 → next_state row k own t ≡ 0
  bare_next t z s = subst (λ u. next_state row k own u ≡ 0) (bare_is t z s) (bare_state row k own t.global)

  -- the fact of an object behind its choice
  chosen_fact : (t u : NumberedTuple) (o : M.Obj) (x : Option M.State) → u.global ≡ t.global → V.object n u.object ≡ Some o → IsState M A G V u.state → V.state u.state ≡ x
      → fact (chosen_after t u) ≡ HasObject o (M.choose e f k (V.global t.global) o x)
  chosen_fact t u o x g h s q =
      object_fact M L A G V N n (chosen_after t u) o h ∙ ap (HasObject o) (R.choices.state u o h s)
      ∙ ap (λ y. HasObject o (M.choose e f k (V.global u.global) o y)) q ∙ ap (λ j. HasObject o (M.choose e f k (V.global j) o x)) g

  -- what one behind the move becomes
  abbrev Becomes : NumberedTuple → NumberedTuple → Type 0
  Becomes t u = IsNumbered M A G V n u × (V.global u.global ≡ M.next_global e f k (V.global t.global)) × EventFlow M L A f k e (V.global t.global) (fact t) (fact u)

  becomes : (t u : NumberedTuple) → MovesTo M L A G V n f e t u → Becomes t (chosen_after t u)
  becomes t u (StaysBare z s d) = subst (λ v. Becomes t (chosen_after t v)) d
      (IsBare z (bare_next t z s), R.choices.global t.global, bare_flows M L A f k e (V.global t.global) (bare_fact M L A G V N n t z) (bare_fact M L A G V N n (chosen_after t t) z))
  becomes t u (Carries o g h s a w) = (
    IsOf o h (R.choices.is_state u o h s),
    R.choices.global t.global,
    subst (EventFlow M L A f k e (V.global t.global) (fact t)) (sym (chosen_fact t u o (V.state u.state) g h s refl)) (EventObject o (V.state u.state) a w),
  )

  sound : (t u : NumberedTuple) → IsNumbered M A G V n t → Contains (behind row k own t) u → Becomes t u
  sound t u i c =
      let s = of_map (chosen_after t) (moved row t) u c in
      subst (Becomes t) s.2 (becomes t s.0 (moved_right M L A G V n f e N named row R.move t s.0 i s.1))

  whole : (t : NumberedTuple) (v : Fact M) → IsNumbered M A G V n t → EventFlow M L A f k e (V.global t.global) (fact t) v → (u : NumberedTuple) × Contains (behind row k own t) u × (fact u ≡ v)
  whole t v i w = elim (flows_by M L A f k e (V.global t.global) w) [
    | inl b ↦
        let z = if_bare M L A G V N n t i b.0 in
        (chosen_after t t, to_map (chosen_after t) (moved row t) t (bare_stays M L A G V n f e N named row R.move t z), bare_fact M L A G V N n (chosen_after t t) z ∙ b.1)
    | inr b ↦
        let s = moved_whole M L A G V n f e N named row R.move t b.object b.state i b.begins b.given in
        (chosen_after t s.tuple, to_map (chosen_after t) (moved row t) s.tuple s.among, chosen_fact t s.tuple b.object b.state s.global s.object s.is_state s.state ∙ b.is)
  ]

  -- ---- reports

  notes : (t u : NumberedTuple) (r : M.Report) → MovesTo M L A G V n f e t u → SomeGives report (fired number row k own u) r → ShowsHere M L A G V f k r e (V.global t.global) (fact t)
  notes t u r (StaysBare z s d) x =
      subst (ShowsHere M L A G V f k r e (V.global t.global)) (sym (bare_fact M L A G V N n t z))
      (ShowsAlone ((R.firings.global t.global r).0 (subst (λ v. SomeGives report (fired number row k own v) r) (sym (bare_is t z s ∙ d)) x)))
  notes t u r (Carries o g h s a w) x = ShowsOf o (V.state u.state) a w (subst (λ j. M.Fires e f k (V.global j) o (V.state u.state) r) g ((R.firings.object u o r h s).0 x))

  reported : (t : NumberedTuple) (x : Firing) (r : M.Report) → IsNumbered M A G V n t → Contains (firings number row k own t) x → report x r
      → ShowsHere M L A G V f k r e (V.global t.global) (fact t)
  reported t x r i c p =
      let s = of_flat (fired number row k own) (moved row t) x c in
      notes t s.0 r (moved_right M L A G V n f e N named row R.move t s.0 i s.1) (x, s.2, p)

  noted_by : (t u : NumberedTuple) (r : M.Report) → Contains (moved row t) u → SomeGives report (fired number row k own u) r → SomeGives report (firings number row k own t) r
  noted_by t u r c x = (x.0, to_flat (fired number row k own) (moved row t) x.0 (u, c, x.1), x.2)

  noted : (t : NumberedTuple) (r : M.Report) → IsNumbered M A G V n t → ShowsHere M L A G V f k r e (V.global t.global) (fact t) → SomeGives report (firings number row k own t) r
  noted t r i w = elim (shows_by M L A G V f k r e (V.global t.global) w) [
    | inl b ↦
        let z = if_bare M L A G V N n t i b.0 in
        noted_by t t r (bare_stays M L A G V n f e N named row R.move t z)
        (subst (λ v. SomeGives report (fired number row k own v) r) (bare_is t z (bare_if M L A G V N n t i z)) ((R.firings.global t.global r).1 b.1))
    | inr b ↦
        let s = moved_whole M L A G V n f e N named row R.move t b.object b.state i b.begins b.given in
        noted_by t s.tuple r s.among
        ((R.firings.object s.tuple b.object r s.object s.is_state).1
        (subst (λ y. M.Fires e f k (V.global s.tuple.global) b.object y r) (sym s.state) (subst (λ j. M.Fires e f k (V.global j) b.object b.state r) (sym s.global) b.fires)))
  ]

  -- THE ROW STANDS FOR THE EVENT
  pub is_row : IsRow M L A G V n f k own report number e row
  is_row = record { sound = sound; whole = whole; reported = reported; noted = noted }
