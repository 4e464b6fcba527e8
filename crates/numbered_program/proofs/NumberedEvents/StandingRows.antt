-- ROWS STAND FOR EVENTS: what the lemmas on numbers say, of what the numbers stand for.
use Rattle.std.proofs.Common.{◌≡◌, ◌↔◌, ◌∙◌, ◌⊎◌, inl, inr, refl, sym, ap, subst, arith, ℕ, suc, ◌+◌, Bool, true, cond, List, [], ◌∷◌, Contains, Option, None, Some, slice_get}
use Rattle.std.specs.List.{AllZip}
use Rattle.std.proofs.lemmas.Option.{none-some}
use Rattle.block_flows.specs.FollowedLists.{is_followed}
use Rattle.block_flows.specs.TupleFlows.Moved.{source_in}
use Rattle.c_objects.specs.Objects.{Object}
use Rattle.numbered_program.proofs.EventTables.Numbered.{numbered_in}
use Rattle.numbered_program.specs.EventTables.Rows.{IsEventRow}
use Rattle.least_set.specs.Logs.{SomeGives}
use Rattle.masked_paths.specs.Masked.{EventIn, masked_events}
use Rattle.numbered_program.proofs.NumberedEvents.ItemNumbers.{positive, state_again}
use Rattle.numbered_program.proofs.NumberedEvents.MovedNumbers.{IsSourceNumber, TouchedBy, kept_or_touched, source_followed, source_is, touched_by}
use Rattle.numbered_program.proofs.NumberedEvents.NextNumbers.{next_global_is, next_state_has, next_state_is}
use Rattle.numbered_program.proofs.NumberedEvents.NotedNumbers.{global_fires, object_fires}
use Rattle.numbered_program.specs.NumberedEvents.Listed.{AreListed, AreViewsOf, own_of}
use Rattle.numbered_program.specs.NumberedEvents.Saying.{Says}
use Rattle.numbered_paths.proofs.Blocks.{rows_stand}
use Rattle.numbered_paths.proofs.RowsOfParts.{is_row}
use Rattle.numbered_paths.specs.RowParts.{AreChoicesOf, AreFiringsOf, IsMoveOf, IsNumberOf, IsRowOf}
use Rattle.numbered_paths.specs.Rows.{AreRows, StandFor}
use Rattle.numbered_paths.specs.Views.{AreNumbers, IsKnown, IsState, IsUnknown, Views}
use Rattle.numbered_program.specs.NumberedTuples.ObjectStates.{number_of_state}
use Rattle.block_flows.specs.Masks.{model_under, objects_under, origins_under}
use Rattle.path_model.specs.CheckerModel.Checkers.{model}
use Rattle.path_model.specs.CheckerModel.Choices.{State, chosen, next_global}
use Rattle.path_model.specs.CheckerModel.Happenings.{Function, Happening}
use Rattle.path_model.specs.CheckerModel.Moves.{Move, move_of}
use Rattle.path_model.specs.CheckerModel.Reports.{Checker, Fires, FiresGlobal}
use Rattle.path_theory.specs.Facts.{Objects}
use Rattle.path_theory.specs.FlowGraphs.{FlowGraphs}
use Rattle.path_theory.specs.Model.{Model}
use Rattle.path_theory.specs.Origins.{Origins}
use Rattle.report_model.specs.declared.report.Report.{Report}
use Rattle.row_flows.specs.Behind.{fired}
use Rattle.row_flows.specs.Choices as row
use Rattle.row_flows.specs.Numbers.{item_numbered}
use Rattle.row_flows.specs.declared.rows.EventRow.{EventRow}
use Rattle.row_flows.specs.declared.rows.Touched.{Touched}
use Rattle.row_flows.specs.declared.tuples.NumberedTuple.{NumberedTuple}
use Rattle.typed_unit.specs.Texts.{Text}

module _ (c : Checker) (ts : List Text) (lists : List (List Object)) (G : FlowGraphs (model_under c ts lists)) (V : Views (model_under c ts lists) G)
    (n : ℕ) (f : Function) (followed : List Object) (states : List State) (listed : AreListed c.machine.rules ts lists f followed states) (views : AreViewsOf c ts lists G V n followed states) where
  abbrev M : Model
  M = model_under c ts lists

  abbrev L : Origins (model_under c ts lists)
  L = origins_under c ts lists

  abbrev A : Objects (model_under c ts lists)
  A = objects_under c ts lists

  -- ---- what the numbers stand for

  has_object : (i : ℕ) (o : Object) → V.object n i ≡ Some o → item_numbered followed i ≡ Some o
  has_object i o h = sym (views.object i) ∙ h

  is_listed : (i : ℕ) (o : Object) → V.object n i ≡ Some o → is_followed ts lists f o ≡ true
  is_listed i o h = listed.follows o ∙ numbered_in followed i o (sym (has_object i o h))

  no_state : (x : ℕ) → IsState M A G V x → item_numbered states x ≡ None → x ≡ 0
  no_state x (IsUnknown e) z = e
  no_state x (IsKnown s e) z = absurd (none-some s (sym z ∙ sym (views.state x) ∙ e))

  state_listed : (x : State) → Contains states x → IsState M A G V (number_of_state states x)
  state_listed x s = IsKnown x (views.state (number_of_state states x) ∙ state_again states listed.states_once x s)

  is_number_of : (i : ℕ) (z : Option Object) → IsSourceNumber followed i z → IsNumberOf M L A G V n i z
  is_number_of i None e = e
  is_number_of i (Some s) e = views.object i ∙ e

  module _ (h : Happening) (r : EventRow) (is : IsEventRow c.machine c.depth h f followed states r) where
    abbrev e : EventIn Function Happening
    e = record { fn = f; event = h }

    abbrev m : Option Move
    m = move_of h.facts c.depth h.event

    -- ---- the move

    same_source : (o : Object) → L.source (record { fn = f; event = h }) o ≡ source_in c.depth m followed o
    same_source o = source_is c ts lists f followed listed.follows h o

    touches : (x : Touched) → Contains r.touched.items x → (o : Object) × (V.object n x.object ≡ Some o) × IsNumberOf M L A G V n x.source (L.source (record { fn = f; event = h }) o)
    touches x s =
        let t : TouchedBy followed listed.objects_once c.depth m x = touched_by followed listed.objects_once c.depth m x (subst (λ l. Contains l x) is.touched s) in (
          t.object,
          views.object x.object ∙ t.has,
          subst (IsNumberOf M L A G V n x.source) (sym (same_source t.object)) (is_number_of x.source (source_in c.depth m followed t.object) t.given),
        )

    keeps : (i : ℕ) (o : Object) → V.object n i ≡ Some o → (L.source (record { fn = f; event = h }) o ≡ Some o) ⊎ ((x : Touched) × Contains r.touched.items x × (x.object ≡ i))
    keeps i o s =
        let has = has_object i o s in
        elim (kept_or_touched followed listed.objects_once c.depth m i o has (positive followed i o has)) [
          | inl k ↦ inl (same_source o ∙ k)
          | inr w ↦ inr (w.0, subst (λ l. Contains l w.0) (sym is.touched) w.1, w.2)
        ]

    stays_followed : (o s : Object) → L.source (record { fn = f; event = h }) o ≡ Some s → A f s → A f o
    stays_followed o s d a = listed.follows o ∙ source_followed followed listed.objects_once c.depth m o s (sym (same_source o) ∙ d)

    pub is_move : IsMoveOf M L A G V n f e r
    is_move = record { sources = touches; touched = keeps; followed = stays_followed }

    module _ (k : Bool) where
      -- ---- the choices

      global_behind : (g : ℕ) → V.global (row.next_global r k (own_of followed) g) ≡ next_global c.machine c.depth h f k (V.global g)
      global_behind g = views.global (row.next_global r k (own_of followed) g) ∙ next_global_is c h f followed states r is k g ∙ ap (next_global c.machine c.depth h f k) (sym (views.global g))

      state_behind : (t : NumberedTuple) (o : Object) → V.object n t.object ≡ Some o → IsState M A G V t.state
          → V.state (row.next_state r k (own_of followed) t) ≡ cond (is_followed ts lists f o) (chosen c.machine c.depth h f k (V.global t.global) o (V.state t.state)) (V.state t.state)
      state_behind t o s x =
          views.state (row.next_state r k (own_of followed) t)
          ∙ next_state_is c h f followed states r is k listed.objects_once listed.states_once listed.named t o (has_object t.object o s) (no_state t.state x)
          ∙ ap (λ g. chosen c.machine c.depth h f k g o (item_numbered states t.state)) (sym (views.global t.global))
          ∙ ap (chosen c.machine c.depth h f k (V.global t.global) o) (sym (views.state t.state))
          ∙ ap (λ b. cond b (chosen c.machine c.depth h f k (V.global t.global) o (V.state t.state)) (V.state t.state)) (sym (is_listed t.object o s))

      state_is : (t : NumberedTuple) (o : Object) → V.object n t.object ≡ Some o → IsState M A G V t.state → IsState M A G V (row.next_state r k (own_of followed) t)
      state_is t o s x =
          next_state_has c h f followed states r is k listed.objects_once listed.states_once listed.named t o (has_object t.object o s) (no_state t.state x) (IsState M A G V) x (IsUnknown refl) state_listed

      pub are_choices : AreChoicesOf M L A G V n f k (own_of followed) e r
      are_choices = record { global = global_behind; state = state_behind; is_state = state_is }

      -- ---- what is noted

      module _ (es : List (EventIn Function Happening)) (number : ℕ) (here : slice_get es number ≡ Some (record { fn = f; event = h })) where
        object_notes : (t : NumberedTuple) (o : Object) (p : Report) → V.object n t.object ≡ Some o → IsState M A G V t.state
            → SomeGives (Says c es followed) (fired number r k (own_of followed) t) p ↔ ((is_followed ts lists f o ≡ true) × Fires c h f k (V.global t.global) o (V.state t.state) p)
        object_notes t o p s x =
            let w = object_fires c h f followed states r is k es number here p listed.objects_once listed.states_once t o (has_object t.object o s) (no_state t.state x) in (
              λ y. (
                is_listed t.object o s,
                subst (λ z. Fires c h f k (V.global t.global) o z p) (sym (views.state t.state))
                    (subst (λ g. Fires c h f k g o (item_numbered states t.state) p) (sym (views.global t.global)) (w.0 y)),
              ),
              λ y. w.1 (subst (λ g. Fires c h f k g o (item_numbered states t.state) p) (views.global t.global)
                  (subst (λ z. Fires c h f k (V.global t.global) o z p) (views.state t.state) y.1)),
            )

        global_notes : (g : ℕ) (p : Report) → SomeGives (Says c es followed) (fired number r k (own_of followed) (row.bare g)) p ↔ FiresGlobal c h f k (V.global g) p
        global_notes g p = subst (λ z. SomeGives (Says c es followed) (fired number r k (own_of followed) (row.bare g)) p ↔ FiresGlobal c h f k z p) (sym (views.global g))
            (global_fires c h f followed states r is k es number here p g)

        pub are_firings : AreFiringsOf M L A G V n f k (own_of followed) (Says c es followed) number e r
        are_firings = record { object = object_notes; global = global_notes }

        -- THE ROW STANDS FOR THE EVENT
        pub is_row_of : IsRowOf M L A G V n f k (own_of followed) (Says c es followed) number e r
        is_row_of = record { move = is_move; choices = are_choices; firings = are_firings }

  -- ---- the rows of a block

  module _ (N : AreNumbers M A G V) (named : V.function n ≡ Some f) (k : Bool) where
    all_rows : (es : List (EventIn Function Happening)) (number : ℕ) (hs : List Happening) (rows : List EventRow)
        → ((j i : ℕ) → i ≡ number + j → slice_get es i ≡ slice_get (masked_events (model c) f hs) j) → AllZip (λ h r. IsEventRow c.machine c.depth h f followed states r) hs rows
        → AreRows M L A G V n f k (own_of followed) (Says c es followed) number (masked_events (model c) f hs) rows
    all_rows es number [] [] at w = tt
    all_rows es number [] (r ∷ rows) at w = absurd w
    all_rows es number (h ∷ hs) [] at w = absurd w
    all_rows es number (h ∷ hs) (r ∷ rows) at w = (
      is_row M L A G V N n f named k (own_of followed) (Says c es followed) number (e h r w.0) r (is_row_of h r w.0 k es number (at 0 number (omega arith))),
      all_rows es (number + 1) hs rows (λ j i d. at (suc j) i (omega (arith, d))) w.1,
    )

    -- THEY STAND FOR ITS EVENTS
    pub block_stands : (hs : List Happening) (rows : List EventRow) → AllZip (λ h r. IsEventRow c.machine c.depth h f followed states r) hs rows
        → StandFor M L A G V n f k (own_of followed) (Says c (masked_events (model c) f hs) followed) (masked_events (model c) f hs) rows
    block_stands hs rows w =
        let es : List (EventIn Function Happening) = masked_events (model c) f hs in
        rows_stand M L A G V n f k (own_of followed) (Says c es followed) es rows
        (all_rows es 0 hs rows (λ j i d. let same : i ≡ j = omega (arith, d) in ap (slice_get es) same) w)
