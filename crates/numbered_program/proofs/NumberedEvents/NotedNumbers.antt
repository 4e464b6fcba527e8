-- WHAT IS NOTED, by number, says the reports that the checker gives.
use Rattle.std.proofs.Common.{◌≡◌, ◌↔◌, ◌∙◌, refl, sym, ap, subst, ℕ, Bool, cond, is_some, List, [], ◌∷◌, map, Contains, Option, None, Some, option_map, slice_get}
use Rattle.std.specs.Option.{option_map_or}
use Rattle.std.proofs.lemmas.Option.{none-some, same_Some, slice_get-map}
use Rattle.block_flows.proofs.TupleFlows.Lists.{contains-first}
use Rattle.c_objects.specs.Objects.{Object}
use Rattle.numbered_program.specs.EventTables.Rows.{IsEventRow}
use Rattle.flow_graph.specs.CPaths.EventPlaces.{event_place}
use Rattle.c_tree.specs.declared.token.Token.{Token}
use Rattle.least_set.proofs.Growing.{nothing}
use Rattle.least_set.specs.Logs.{IsOnce, SomeGives}
use Rattle.masked_paths.specs.Masked.{EventIn}
use Rattle.metal_tree.specs.MetalMachines.Machine.{Piece}
use Rattle.numbered_program.proofs.NumberedEvents.TakenPlaces.{applying, by_number, global_place, global_rule_at, object_place, object_rule_at, place, standing}
use Rattle.numbered_program.specs.NumberedEvents.Listed.{own_of}
use Rattle.numbered_program.specs.NumberedEvents.Saying.{Says, SaysAt}
use Rattle.path_model.proofs.CheckerModel.Sources.{given}
use Rattle.path_model.specs.CheckerModel.Choices.{State, Taken, is_asked, is_global_asked, taken, taken_global}
use Rattle.path_model.specs.CheckerModel.Happenings.{Function, Happening}
use Rattle.path_model.specs.CheckerModel.Reports.{Checker, Fires, FiresGlobal, report_at, report_of, token_at}
use Rattle.report_model.specs.declared.report.Report.{Report}
use Rattle.row_flows.proofs.Lists.{the_one}
use Rattle.row_flows.specs.Behind.{fired, noted, noted_at}
use Rattle.row_flows.specs.Choices.{bare, taken_place}
use Rattle.row_flows.specs.Numbers.{item_numbered}
use Rattle.row_flows.specs.declared.behind.Firing.{Firing}
use Rattle.row_flows.specs.declared.rows.Applied as rows
use Rattle.row_flows.specs.declared.rows.EventRow.{EventRow}
use Rattle.row_flows.specs.declared.tuples.NumberedTuple.{NumberedTuple}
use Rattle.state_tuples.specs.AppliedRules.Applied.{Applied}
use Rattle.state_tuples.specs.Ways.Firsts.{rule_taken}
use Rattle.state_tuples.specs.RuleChoices.Asked.{GlobalState, ObjectIn}
use Rattle.type_rules.specs.Options.{◌>?◌}

-- a rule that reports has an action
has_action : (c : Checker) (h : Happening) (f : Function) (o : Option Object) (t : Taken) (r : Report) → report_of c h f o t ≡ Some r → t.rule.action ≡ None → ⊥
has_action c h f o t r e none =
    let acts = given t.rule.action (λ (pieces : List Piece). option_map (λ (token : Token). report_at c h f o t token pieces) (token_at (event_place h.event) h.tokens)) r e in
    none-some acts.0 (sym none ∙ acts.1)

abbrev firing : ℕ → ℕ → ℕ → Firing
firing number object at = record { event = number; object = object; place = at }

module _ (c : Checker) (h : Happening) (f : Function) (followed : List Object) (states : List State) (es : List (EventIn Function Happening)) (number : ℕ)
    (here : slice_get es number ≡ Some (record { fn = f; event = h })) (r : Report) where
  abbrev says : Firing → Report → Type 0
  says = Says c es followed

  abbrev row : Applied → rows.Applied
  row = by_number c h f followed states

  -- what the alternative at a place says is its report
  module _ (object at : ℕ) (x : Applied) (stands : slice_get (applying c h f) at ≡ Some x) where
    abbrev Reports : Type 0
    Reports = report_of c h f (item_numbered followed object) x.taken ≡ Some r

    says_here : Says c es followed (firing number object at) r → SaysAt c h f followed (firing number object at) r
    says_here s =
        let there : EventIn Function Happening = record { fn = f; event = h } in
        let same : s.event ≡ there = same_Some s.event there (sym s.among ∙ here) in
        subst (λ (y : EventIn Function Happening). SaysAt c y.event y.fn followed (firing number object at) r) same s.says

    said_right : SaysAt c h f followed (firing number object at) r → Reports
    said_right s =
        let same : s.alternative ≡ x = same_Some s.alternative x (sym s.stands ∙ stands) in
        subst (λ (y : Applied). report_of c h f (item_numbered followed object) y.taken ≡ Some r) same s.gives

    said_whole : Reports → Says c es followed (firing number object at) r
    said_whole e = record { event = record { fn = f; event = h }; among = here; says = record { alternative = x; stands = stands; gives = e } }

    -- it is noted where its rule has an action
    noted_so : SomeGives says (noted number object at (row x)) r ↔ Reports
    noted_so = by x.taken.rule.action refl
      where
        by : (z : Option (List Piece)) → x.taken.rule.action ≡ z → SomeGives says (cond (is_some z) (firing number object at ∷ []) []) r ↔ Reports
        by None e = (λ s. absurd (nothing s.0 s.1), λ g. absurd (has_action c h f (item_numbered followed object) x.taken r g e))
        by (Some pieces) e = (
          λ s. said_right (says_here (subst (λ (y : Firing). Says c es followed y r) (sym (the_one (firing number object at) s.0 s.1)) s.2)),
          λ g. (firing number object at, contains-first (firing number object at) [], said_whole g),
        )

  -- WHAT IS NOTED AT A PLACE, if it is one, says the report of the rule that is taken there
  abbrev Gives : ℕ → Option Taken → Type 0
  Gives object t = (t >? report_of c h f (item_numbered followed object)) ≡ Some r

  nothing_noted : (object : ℕ) → SomeGives says [] r ↔ Gives object None
  nothing_noted object = (λ s. absurd (nothing s.0 s.1), λ e. absurd (none-some r e))

  noted_there : (object at : ℕ) → SomeGives says (noted_at number object (map row (applying c h f)) at) r ↔ Gives object (rule_taken (slice_get (applying c h f) at))
  noted_there object at =
      subst (λ (z : Option rows.Applied). SomeGives says (option_map_or (noted number object at) z []) r ↔ Gives object (rule_taken (slice_get (applying c h f) at)))
      (sym (slice_get-map row (applying c h f) at)) (by (slice_get (applying c h f) at) refl)
    where
      by : (z : Option Applied) → slice_get (applying c h f) at ≡ z → SomeGives says (option_map_or (noted number object at) (option_map row z) []) r ↔ Gives object (rule_taken z)
      by None e = nothing_noted object
      by (Some x) e = noted_so object at x e

  pub noted_by_place : (object : ℕ) (z : Option ℕ) → SomeGives says (option_map_or (noted_at number object (map row (applying c h f))) z []) r ↔ Gives object (rule_taken (standing c h f z))
  noted_by_place object None = nothing_noted object
  noted_by_place object (Some at) = noted_there object at

module _ (c : Checker) (h : Happening) (f : Function) (followed : List Object) (states : List State) (row : EventRow) (is : IsEventRow c.machine c.depth h f followed states row) (k : Bool)
    (es : List (EventIn Function Happening)) (number : ℕ) (here : slice_get es number ≡ Some (record { fn = f; event = h })) (r : Report) where
  fired_is : (t : NumberedTuple) (z : Option ℕ) → taken_place row k (own_of followed) t ≡ z
      → fired number row k (own_of followed) t ≡ option_map_or (noted_at number t.object (map (by_number c h f followed states) (applying c h f))) z []
  fired_is t z e =
      ap (λ l. option_map_or (noted_at number t.object l) (taken_place row k (own_of followed) t) []) is.applied
      ∙ ap (λ y. option_map_or (noted_at number t.object (map (by_number c h f followed states) (applying c h f))) y []) e

  -- by the rule that is taken at its place, about this object
  fired_so : (t : NumberedTuple) (z : Option ℕ) (u : Option Taken) (o : Option Object) → taken_place row k (own_of followed) t ≡ z → rule_taken (standing c h f z) ≡ u
      → item_numbered followed t.object ≡ o → SomeGives (Says c es followed) (fired number row k (own_of followed) t) r ↔ ((u >? report_of c h f o) ≡ Some r)
  fired_so t z u o at taken has =
      let w = noted_by_place c h f followed states es number here r t.object z in
      let list = fired_is t z at in
      let same : (rule_taken (standing c h f z) >? report_of c h f (item_numbered followed t.object)) ≡ (u >? report_of c h f o) =
      ap (λ (y : Option Taken). y >? report_of c h f (item_numbered followed t.object)) taken ∙ ap (λ (y : Option Object). u >? report_of c h f y) has in (
        λ s. sym same ∙ w.0 (subst (λ l. SomeGives (Says c es followed) l r) list s),
        λ e. subst (λ l. SomeGives (Says c es followed) l r) (sym list) (w.1 (same ∙ e)),
      )

  -- THE GLOBAL STATE
  pub global_fires : (g : ℕ) → SomeGives (Says c es followed) (fired number row k (own_of followed) (bare g)) r ↔ FiresGlobal c h f k g r
  global_fires g = fired_so (bare g) (place c h f (is_global_asked h.event k) g GlobalState) (taken_global c.machine c.depth h f k g) None
      (global_place c h f followed states row is k g) (global_rule_at c h f k g) refl

  -- AN OBJECT
  pub object_fires : IsOnce followed → IsOnce states → (t : NumberedTuple) (o : Object) → item_numbered followed t.object ≡ Some o → (item_numbered states t.state ≡ None → t.state ≡ 0)
      → SomeGives (Says c es followed) (fired number row k (own_of followed) t) r ↔ Fires c h f k t.global o (item_numbered states t.state) r
  object_fires once states_once t o has unknown =
      fired_so t (place c h f (is_asked h.event k o) t.global (ObjectIn o (item_numbered states t.state))) (taken c.machine c.depth h f k t.global o (item_numbered states t.state)) (Some o)
      (object_place c h f followed states row is k once states_once t o has unknown) (object_rule_at c h f k t.global o (item_numbered states t.state)) has
