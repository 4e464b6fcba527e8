-- THE PLACE OF THE ALTERNATIVE THAT IS TAKEN, in a row and by the checker: the rule that is taken is that of the alternative at this place.
use Rattle.std.proofs.Common.{◌≡◌, ◌∙◌, refl, sym, ap, ℕ, nat_eq, Bool, true, false, cond, not, ◌||◌, List, map, Option, None, Some, option_and_then, option_map, position, slice_get}
use Rattle.c_objects.specs.Objects.{Object}
use Rattle.numbered_program.specs.EventTables.Alternatives.{alternative_row}
use Rattle.numbered_program.specs.EventTables.Rows.{IsEventRow}
use Rattle.hole_matching.specs.Callouts.{is_local}
use Rattle.hole_matching.specs.Holes.{Setting}
use Rattle.least_set.specs.Logs.{IsOnce}
use Rattle.metal_tree.specs.MetalMachines.Machine.{stop}
use Rattle.numbered_program.proofs.NumberedEvents.ItemNumbers.{own_number}
use Rattle.numbered_program.proofs.NumberedEvents.PlacesInLists.{at_mapped, first_at_place, position_mapped}
use Rattle.numbered_program.proofs.NumberedEvents.TakenByNumber.{global_takes_rule, object_takes_rule}
use Rattle.numbered_program.specs.NumberedEvents.Listed.{own_of}
use Rattle.path_model.specs.CheckerModel.Choices.{State, Taken, first_some, is_asked, is_exit, is_global_asked, scene, taken, taken_global}
use Rattle.path_model.specs.CheckerModel.Happenings.{Function, Happening}
use Rattle.path_model.specs.CheckerModel.Reports.{Checker}
use Rattle.row_flows.specs.Choices as row
use Rattle.row_flows.specs.Choices.{bare, taken_place}
use Rattle.row_flows.specs.Numbers.{is_own, item_numbered}
use Rattle.row_flows.specs.declared.rows.Applied as rows
use Rattle.row_flows.specs.declared.rows.EventRow.{EventRow}
use Rattle.row_flows.specs.declared.tuples.NumberedTuple.{NumberedTuple}
use Rattle.state_tuples.proofs.AppliedRules.MatchedOnce.{matched_once}
use Rattle.state_tuples.specs.AppliedRules.Applied.{Applied, applied_at}
use Rattle.state_tuples.specs.Ways.Firsts.{rule_taken, takes}
use Rattle.state_tuples.specs.RuleChoices.Asked.{Asker, GlobalState, ObjectIn, asked_rule}

module _ (c : Checker) (h : Happening) (f : Function) where
  abbrev pub setting : Setting
  setting = scene c.machine c.depth h f

  -- the alternatives that apply
  abbrev pub applying : List Applied
  applying = applied_at (scene c.machine c.depth h f) h.event c.machine.rules

  abbrev pub passes : ℕ → Asker → Applied → Bool
  passes state a x = takes (scene c.machine c.depth h f) h.event state a x.taken

  -- THE PLACE of the first that is taken by who is asked, if it is asked
  abbrev pub place : Bool → ℕ → Asker → Option ℕ
  place asked state a = cond (nat_eq state stop || not asked) None (position (passes state a) applying)

  -- what stands at a place
  abbrev pub standing : Option ℕ → Option Applied
  standing z = option_and_then (slice_get applying) z

  -- ---- by the checker

  rule_at : (asked : Bool) (state : ℕ) (a : Asker)
      → rule_taken (standing (place asked state a)) ≡ cond (nat_eq state stop || not asked) None (first_some (asked_rule setting h.event state a) c.machine.rules)
  rule_at asked state a = by (nat_eq state stop || not asked)
    where
      by : (b : Bool) → rule_taken (standing (cond b None (position (passes state a) applying))) ≡ cond b None (first_some (asked_rule setting h.event state a) c.machine.rules)
      by true = refl
      by false = ap rule_taken (sym (first_at_place (passes state a) applying)) ∙ matched_once setting h.event state a c.machine.rules

  pub global_rule_at : (k : Bool) (g : ℕ) → rule_taken (standing (place (is_global_asked h.event k) g GlobalState)) ≡ taken_global c.machine c.depth h f k g
  global_rule_at k g = rule_at (is_global_asked h.event k) g GlobalState

  pub object_rule_at : (k : Bool) (g : ℕ) (o : Object) (x : Option State)
      → rule_taken (standing (place (is_asked h.event k o) g (ObjectIn o x))) ≡ taken c.machine c.depth h f k g o x
  object_rule_at k g o x = rule_at (is_asked h.event k o) g (ObjectIn o x)

-- ---- who is asked

asked_alone : (x y k : Bool) → x ≡ y → (not x || (k || false)) ≡ (not y || k)
asked_alone x y k e = ap (λ z. not z || (k || false)) e ∙ ap (λ z. not y || z) (by k)
  where
    by : (b : Bool) → (b || false) ≡ b
    by true = refl
    by false = refl

asked_of : (x y k l m : Bool) → x ≡ y → l ≡ m → (not x || (k || l)) ≡ (not y || k || m)
asked_of x y k l m e d = ap (λ z. not z || (k || l)) e ∙ ap (λ z. not y || (k || z)) d ∙ by y k
  where
    by : (a b : Bool) → (not a || (b || m)) ≡ (not a || b || m)
    by true b = refl
    by false b = refl

-- ---- in a row

abbrev pub by_number : Checker → Happening → Function → List Object → List State → Applied → rows.Applied
by_number c h f followed states = alternative_row followed states (scene c.machine c.depth h f) h.event

module _ (c : Checker) (h : Happening) (f : Function) (followed : List Object) (states : List State) (r : EventRow) (is : IsEventRow c.machine c.depth h f followed states r) (k : Bool) where
  place_is : (t : NumberedTuple) (asked : Bool) (a : Asker) → row.is_asked r k (own_of followed) t.object ≡ asked
      → ((x : Applied) → row.takes r.is_exit t (by_number c h f followed states x) ≡ passes c h f t.global a x) → taken_place r k (own_of followed) t ≡ place c h f asked t.global a
  place_is t asked a q w =
      ap (λ b. cond (nat_eq t.global 1 || not b) None (position (row.takes r.is_exit t) r.applied.items)) q
      ∙ ap (λ z. cond (nat_eq t.global 1 || not asked) None z) found
    where
      tests : (λ (x : Applied). row.takes r.is_exit t (by_number c h f followed states x)) ≡ passes c h f t.global a
      tests = λ i x. w x i

      found : position (row.takes r.is_exit t) r.applied.items ≡ position (passes c h f t.global a) (applying c h f)
      found =
          ap (position (row.takes r.is_exit t)) is.applied
          ∙ position_mapped (by_number c h f followed states) (row.takes r.is_exit t) (applying c h f)
          ∙ ap (λ (p : Applied → Bool). position p (applying c h f)) tests

  pub global_place : (g : ℕ) → taken_place r k (own_of followed) (bare g) ≡ place c h f (is_global_asked h.event k) g GlobalState
  global_place g = place_is (bare g) (is_global_asked h.event k) GlobalState (asked_alone r.is_exit (is_exit h.event) k is.end)
      (global_takes_rule followed states (setting c h f) h.event r.is_exit g)

  pub object_place : IsOnce followed → IsOnce states → (t : NumberedTuple) (o : Object) → item_numbered followed t.object ≡ Some o → (item_numbered states t.state ≡ None → t.state ≡ 0)
      → taken_place r k (own_of followed) t ≡ place c h f (is_asked h.event k o) t.global (ObjectIn o (item_numbered states t.state))
  object_place once states_once t o has unknown = place_is t (is_asked h.event k o) (ObjectIn o (item_numbered states t.state))
      (asked_of r.is_exit (is_exit h.event) k (is_own (own_of followed) t.object) (is_local o.base) is.end (own_number followed t.object o has))
      (object_takes_rule followed once states states_once (setting c h f) h.event r.is_exit is.end t o has unknown)

  -- the row of what is taken is that of the alternative at the place
  pub taken_is : (t : NumberedTuple) (z : Option ℕ) → taken_place r k (own_of followed) t ≡ z
      → row.taken r k (own_of followed) t ≡ option_map (by_number c h f followed states) (standing c h f z)
  taken_is t z e =
      ap (λ l. option_and_then (slice_get l) (taken_place r k (own_of followed) t)) is.applied
      ∙ ap (option_and_then (slice_get (map (by_number c h f followed states) (applying c h f)))) e
      ∙ at_mapped (by_number c h f followed states) (applying c h f) z
