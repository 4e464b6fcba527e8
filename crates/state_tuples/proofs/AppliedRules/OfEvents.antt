-- What is asked of the rules of an event is what is asked of the checker at that event.
use Rattle.std.proofs.Common.{◌≡◌, ℕ, nat_eq, Bool, cond, not, ◌||◌, List, map, Option, None, Some, true, false, refl, sym, ap, subst, ◌∙◌, Contains, Bor}
use Rattle.std.specs.Prelude.{◌↔◌, Vec, Result, Ok, Err, IfOk, IfSome}
use Rattle.std.specs.Option.{option_map}
use Rattle.state_tuples.proofs.AppliedRules.BoundObjects.{exactly_bound}
use Rattle.state_tuples.proofs.AppliedRules.MatchedOnce.{matched_once, taken_by_first}
use Rattle.state_tuples.proofs.AppliedRules.Takers.{object-takes}
use Rattle.state_tuples.specs.AppliedRules.Applied.{Applied, applied_at}
use Rattle.state_tuples.specs.AppliedRules.Bound.{bound_by, BindsFrom}
use Rattle.state_tuples.specs.declared.applied_rules.sources.RuleSources.{RuleSources}
use Rattle.state_tuples.specs.AppliedRules.Events.{applied_of, AreOfEvent}
use Rattle.state_tuples.specs.Ways.Firsts.{picked, first_taken, rule_taken}
use Rattle.state_tuples.specs.AppliedRules.Takers.{IsFirstFor}
use Rattle.state_tuples.specs.declared.applied_rules.rules.EventRules.{EventRules}
use Rattle.c_objects.specs.Objects.{Object}
use Rattle.type_rules.specs.Options.{if_there}
use Rattle.path_model.proofs.CheckerModel.Sources.{untested}
use Rattle.path_model.specs.CheckerModel.Choices.{State, Taken, first_some, is_asked, is_global_asked, scene, taken, taken_global, target_at, global_behind, object_behind, next_global, chosen}
use Rattle.path_model.specs.CheckerModel.Happenings.{Function, Happening}
use Rattle.flow_graph.specs.Values.{event_of}
use Rattle.hole_matcher.specs.HoleBindings.Settings.{setting_in}
use Rattle.metal_tree.specs.MetalMachines.Machine.{stop, Machine}
use Rattle.state_tuples.specs.RuleChoices.Asked.{Asker, GlobalState, ObjectIn, asked_rule, may_take}
use Rattle.state_tuples.specs.declared.rule_choices.fired.Fired.{Fired}
use Rattle.state_tuples.specs.RuleChoices.Firsts.{IsByFirst}
use Rattle.state_tuples.specs.RuleChoices.Values.{taken_of}

untaken : (b : Bool) (x : Option Applied) → rule_taken (cond b None x) ≡ cond b None (rule_taken x)
untaken true x = refl
untaken false x = refl

module _ (m : Machine) (depth : ℕ) (h : Happening) (f : Function) (r : EventRules) (of : AreOfEvent m depth h f r) where
  abbrev all : List Applied
  all = map applied_of r.applied.items

  abbrev first : ℕ → Asker → Option Applied
  first state a = first_some (picked (setting_in r.setting) (event_of r.event) state a) all

  first-is : (state : ℕ) (a : Asker) → first state a ≡ first_some (picked (scene m depth h f) h.event state a) (applied_at (scene m depth h f) h.event m.rules)
  first-is state a =
      ap (λ z. first_some (picked z (event_of r.event) state a) all) of.setting
      ∙ ap (λ z. first_some (picked (scene m depth h f) z state a) all) of.event
      ∙ ap (first_some (picked (scene m depth h f) h.event state a)) of.applied

  rule-is : (state : ℕ) (a : Asker) → rule_taken (first state a) ≡ first_some (asked_rule (scene m depth h f) h.event state a) m.rules
  rule-is state a = ap rule_taken (first-is state a) ∙ matched_once (scene m depth h f) h.event state a m.rules

  pub global_is : (is_root asked : Bool) (state : ℕ) → asked ≡ is_global_asked (event_of r.event) is_root
      → rule_taken (first_taken (setting_in r.setting) (event_of r.event) asked state GlobalState all) ≡ taken_global m depth h f is_root state
  global_is is_root asked state e =
      untaken (nat_eq state stop || not asked) (first state GlobalState)
      ∙ ap (λ z. cond (nat_eq state stop || not z) None (rule_taken (first state GlobalState))) (e ∙ ap (λ z. is_global_asked z is_root) of.event)
      ∙ ap (λ z. cond (nat_eq state stop || not (is_global_asked h.event is_root)) None z) (rule-is state GlobalState)

  pub object_is : (is_root asked : Bool) (state : ℕ) (a : Asker) (o : Object) (x : Option State) → asked ≡ is_asked (event_of r.event) is_root o → a ≡ ObjectIn o x
      → rule_taken (first_taken (setting_in r.setting) (event_of r.event) asked state a all) ≡ taken m depth h f is_root state o x
  object_is is_root asked state a o x e q =
      untaken (nat_eq state stop || not asked) (first state a)
      ∙ ap (λ z. cond (nat_eq state stop || not z) None (rule_taken (first state a))) (e ∙ ap (λ z. is_asked z is_root o) of.event)
      ∙ ap (λ z. cond (nat_eq state stop || not (is_asked h.event is_root o)) None z)
      (rule-is state a ∙ ap (λ z. first_some (asked_rule (scene m depth h f) h.event state z) m.rules) q)

  -- the number is that of the first alternative by which it is taken
  is_by_first : (asked : Bool) (state : ℕ) (a : Asker) (x : Fired) → first_taken (setting_in r.setting) (event_of r.event) asked state a all ≡ Some (applied_of x)
      → (may_take h.event state a (taken_of x).rule ≡ true) × IsByFirst (scene m depth h f) h.event a x
  is_by_first asked state a x e =
      let there = untested (nat_eq state stop || not asked) (first state a) (applied_of x) e in
      taken_by_first (scene m depth h f) h.event state a m.rules (applied_of x) (sym (first-is state a) ∙ there.1)

  pub global_by_first : (asked : Bool) (state : ℕ) (x : Fired) → first_taken (setting_in r.setting) (event_of r.event) asked state GlobalState all ≡ Some (applied_of x)
      → IsFirstFor (scene m depth h f) h.event None x
  global_by_first asked state x e = (is_by_first asked state GlobalState x e).1

  pub object_by_first : (asked : Bool) (state : ℕ) (a : Asker) (o : Object) (q : Option State) (x : Fired) → a ≡ ObjectIn o q
      → first_taken (setting_in r.setting) (event_of r.event) asked state a all ≡ Some (applied_of x) → IsFirstFor (scene m depth h f) h.event (Some o) x
  object_by_first asked state a o q x same e =
      let there = subst (λ (z : Asker). (may_take h.event state z (taken_of x).rule ≡ true) × IsByFirst (scene m depth h f) h.event z x) same (is_by_first asked state a x e) in
      subst (λ (z : Asker). IsByFirst (scene m depth h f) h.event z x) (object-takes h.event state o q (taken_of x).rule there.0) there.1

  pub bound_is : (w : RuleSources) (o : Object) → Contains (bound_by w (setting_in r.setting) all) o ↔ BindsFrom w m depth f h o
  bound_is w o =
      let list : bound_by w (setting_in r.setting) all ≡ bound_by w (scene m depth h f) (applied_at (scene m depth h f) h.event m.rules) =
      ap (λ z. bound_by w z all) of.setting ∙ ap (bound_by w (scene m depth h f)) of.applied in
      subst (λ (z : List Object). Contains z o ↔ BindsFrom w m depth f h o) (sym list) (exactly_bound m depth h f o w)

-- what is known of the one that is picked, by what it stands for
pub picked_rule : (o : Option (Bor Fired)) (y : Option Applied) → option_map (λ (t : Bor Fired). applied_of t.now) o ≡ y → option_map (λ (t : Bor Fired). taken_of t.now) o ≡ rule_taken y
picked_rule None y e = ap rule_taken e
picked_rule (Some t) y e = ap rule_taken e

pub picked_first : (o : Option (Bor Fired)) (y : Option Applied) (P : Fired → Type 0) → option_map (λ (t : Bor Fired). applied_of t.now) o ≡ y
    → ((x : Fired) → y ≡ Some (applied_of x) → P x) → IfSome o (λ (t : Bor Fired). P t.now)
picked_first None y P e k = tt
picked_first (Some t) y P e k = k t.now (sym e)

-- the list of them
pub all_bound : {A E : Type 0} (r : EventRules) (w : RuleSources) (xs : List Fired) (s : Result (Vec Object A) E) → xs ≡ r.applied.items
    → IfOk s (λ list. list.items ≡ bound_by w (setting_in r.setting) (map applied_of xs))
    → IfOk s (λ list. (m : Machine) (depth : ℕ) (h : Happening) (f : Function) → AreOfEvent m depth h f r → (o : Object) → Contains list.items o ↔ BindsFrom w m depth f h o)
all_bound r w xs (Err e) same h = tt
all_bound r w xs (Ok list) same k = λ m depth h f of o.
    let items : list.items ≡ bound_by w (setting_in r.setting) (map applied_of r.applied.items) = k ∙ ap (λ z. bound_by w (setting_in r.setting) (map applied_of z)) same in
    subst (λ (z : List Object). Contains z o ↔ BindsFrom w m depth f h o) (sym items) (bound_is m depth h f r of w o)

-- the states behind what is taken
module _ (m : Machine) (depth : ℕ) (h : Happening) (f : Function) (r : EventRules) (of : AreOfEvent m depth h f r) (is_root : Bool) (state : ℕ) (t : Option Taken) where
  pub global_behind_is : t ≡ taken_global m depth h f is_root state
      → if_there t state (λ t. global_behind (target_at (event_of r.event) t.rule.dest) state) ≡ next_global m depth h f is_root state
  global_behind_is e =
      ap (λ z. if_there z state (λ t. global_behind (target_at (event_of r.event) t.rule.dest) state)) e
      ∙ ap (λ z. if_there (taken_global m depth h f is_root state) state (λ t. global_behind (target_at z t.rule.dest) state)) of.event

  pub object_behind_is : (o : Object) (x : Option State) → t ≡ taken m depth h f is_root state o x
      → if_there t x (λ t. object_behind (target_at (event_of r.event) t.rule.dest) x) ≡ chosen m depth h f is_root state o x
  object_behind_is o x e =
      ap (λ z. if_there z x (λ t. object_behind (target_at (event_of r.event) t.rule.dest) x)) e
      ∙ ap (λ z. if_there (taken m depth h f is_root state o x) x (λ t. object_behind (target_at z t.rule.dest) x)) of.event
