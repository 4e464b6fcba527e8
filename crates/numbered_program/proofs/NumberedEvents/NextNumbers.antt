-- THE STATES BEHIND AN EVENT, by number, are those that the checker chooses.
use Rattle.std.proofs.Common.{◌≡◌, ◌∙◌, refl, sym, ap, subst, ℕ, Bool, List, Contains, Option, None, Some, option_map}
use Rattle.std.specs.Option.{option_map_or}
use Rattle.c_objects.specs.Objects.{Object}
use Rattle.numbered_program.specs.EventTables.RuleEnds.{numbered_target}
use Rattle.numbered_program.specs.EventTables.Rows.{IsEventRow}
use Rattle.least_set.specs.Logs.{IsOnce}
use Rattle.metal_tree.specs.MetalMachines.Machine.{Target, ToGlobal, ToObject, ToUnknown}
use Rattle.numbered_program.proofs.NumberedEvents.ItemNumbers.{state_again}
use Rattle.numbered_program.proofs.NumberedEvents.NamedStates.{target_named}
use Rattle.numbered_program.proofs.NumberedEvents.PlacesInLists.{found_at}
use Rattle.numbered_program.proofs.NumberedEvents.TakenPlaces.{applying, by_number, global_place, global_rule_at, object_place, object_rule_at, place, setting, standing, taken_is}
use Rattle.numbered_program.specs.NumberedEvents.Listed.{own_of}
use Rattle.numbered_program.specs.NumberedTuples.ObjectStates.{number_of_state, states_of_rules}
use Rattle.path_model.specs.CheckerModel.Choices as checker
use Rattle.path_model.specs.CheckerModel.Choices.{State, Taken, is_asked, is_global_asked, target_at}
use Rattle.path_model.specs.CheckerModel.Happenings.{Function, Happening}
use Rattle.path_model.specs.CheckerModel.Reports.{Checker}
use Rattle.row_flows.specs.Choices.{bare, global_behind, next_global, next_state, state_behind, taken_place}
use Rattle.row_flows.specs.Numbers.{item_numbered}
use Rattle.row_flows.specs.declared.rows.Applied as rows
use Rattle.row_flows.specs.declared.rows.EventRow.{EventRow}
use Rattle.row_flows.specs.declared.tuples.NumberedTuple.{NumberedTuple}
use Rattle.state_tuples.specs.AppliedRules.Applied.{Applied}
use Rattle.state_tuples.specs.Ways.Firsts.{rule_taken}
use Rattle.state_tuples.specs.RuleChoices.Asked.{GlobalState, ObjectIn}
use Rattle.type_rules.specs.Options.{if_there}

-- ---- by where an alternative leads

to_global : (states : List State) (t : Target) (g : ℕ) → global_behind (numbered_target states t) g ≡ checker.global_behind t g
to_global states (ToGlobal q) g = refl
to_global states (ToObject v q) g = refl
to_global states (ToUnknown v) g = refl

to_object : (states : List State) → IsOnce states → (t : Target) (n : ℕ) → ((v q : ℕ) → t ≡ ToObject v q → Contains states (v, q))
    → item_numbered states (state_behind (numbered_target states t) n) ≡ checker.object_behind t (item_numbered states n)
to_object states once (ToGlobal q) n named = refl
to_object states once (ToObject v q) n named = state_again states once (v, q) (named v q refl)
to_object states once (ToUnknown v) n named = refl

module _ (c : Checker) (h : Happening) (f : Function) (followed : List Object) (states : List State) (r : EventRow) (is : IsEventRow c.machine c.depth h f followed states r) (k : Bool) where
  -- THE GLOBAL STATE
  pub next_global_is : (g : ℕ) → next_global r k (own_of followed) g ≡ checker.next_global c.machine c.depth h f k g
  next_global_is g =
      let there : Option ℕ = place c h f (is_global_asked h.event k) g GlobalState in
      ap (λ (z : Option rows.Applied). option_map_or (λ (a : rows.Applied). global_behind a.target g) z g) (taken_is c h f followed states r is k (bare g) there (global_place c h f followed states r is k g))
      ∙ by (standing c h f there)
      ∙ ap (λ (z : Option Taken). if_there z g (λ (t : Taken). checker.global_behind (target_at h.event t.rule.dest) g)) (global_rule_at c h f k g)
    where
      by : (z : Option Applied) → option_map_or (λ (a : rows.Applied). global_behind a.target g) (option_map (by_number c h f followed states) z) g
          ≡ if_there (rule_taken z) g (λ (t : Taken). checker.global_behind (target_at h.event t.rule.dest) g)
      by None = refl
      by (Some x) = to_global states (target_at h.event x.taken.rule.dest) g

  -- THE STATE OF AN OBJECT
  module _ (once : IsOnce followed) (states_once : IsOnce states) (named : (x : State) → Contains (states_of_rules c.machine.rules) x → Contains states x)
      (t : NumberedTuple) (o : Object) (has : item_numbered followed t.object ≡ Some o) (unknown : item_numbered states t.state ≡ None → t.state ≡ 0) where
    -- where the alternative stands that is taken
    abbrev there : Option ℕ
    there = place c h f (is_asked h.event k o) t.global (ObjectIn o (item_numbered states t.state))

    target_listed : (x : Applied) → standing c h f there ≡ Some x → (v q : ℕ) → target_at h.event x.taken.rule.dest ≡ ToObject v q → Contains states (v, q)
    target_listed x e v q d = named (v, q) (target_named (setting c h f) h.event c.machine.rules x (found_at (applying c h f) there x e) v q d)

    -- behind what stands there
    abbrev behind : Option Applied → ℕ
    behind z = option_map_or (λ (x : Applied). state_behind (numbered_target states (target_at h.event x.taken.rule.dest)) t.state) z t.state

    next_is : next_state r k (own_of followed) t ≡ behind (standing c h f there)
    next_is =
        ap (λ (z : Option rows.Applied). option_map_or (λ (a : rows.Applied). state_behind a.target t.state) z t.state)
        (taken_is c h f followed states r is k t there (object_place c h f followed states r is k once states_once t o has unknown))
        ∙ by (standing c h f there)
      where
        by : (z : Option Applied) → option_map_or (λ (a : rows.Applied). state_behind a.target t.state) (option_map (by_number c h f followed states) z) t.state ≡ behind z
        by None = refl
        by (Some x) = refl

    pub next_state_is : item_numbered states (next_state r k (own_of followed) t) ≡ checker.chosen c.machine c.depth h f k t.global o (item_numbered states t.state)
    next_state_is =
        ap (item_numbered states) next_is
        ∙ by (standing c h f there) refl
        ∙ ap (λ (z : Option Taken). if_there z (item_numbered states t.state) (λ (u : Taken). checker.object_behind (target_at h.event u.rule.dest) (item_numbered states t.state)))
        (object_rule_at c h f k t.global o (item_numbered states t.state))
      where
        by : (z : Option Applied) → standing c h f there ≡ z
            → item_numbered states (behind z) ≡ if_there (rule_taken z) (item_numbered states t.state) (λ (u : Taken). checker.object_behind (target_at h.event u.rule.dest) (item_numbered states t.state))
        by None e = refl
        by (Some x) e = to_object states states_once (target_at h.event x.taken.rule.dest) t.state (target_listed x e)

    -- what holds of its number, of 0 and of the numbers of states, holds of the number behind the event
    pub next_state_has : (P : ℕ → Type 0) → P t.state → P 0 → ((x : State) → Contains states x → P (number_of_state states x)) → P (next_state r k (own_of followed) t)
    next_state_has P stays none gives = subst P (sym next_is) (by (standing c h f there) refl)
      where
        by_target : (d : Target) → ((v q : ℕ) → d ≡ ToObject v q → Contains states (v, q)) → P (state_behind (numbered_target states d) t.state)
        by_target (ToGlobal q) w = stays
        by_target (ToObject v q) w = gives (v, q) (w v q refl)
        by_target (ToUnknown v) w = none

        by : (z : Option Applied) → standing c h f there ≡ z → P (behind z)
        by None e = stays
        by (Some x) e = by_target (target_at h.event x.taken.rule.dest) (target_listed x e)
