-- Where no alternative that applies is of a rule with an action, no such rule is taken, whatever stands before the events.
use Rattle.std.proofs.Common.{◌≡◌, ℕ, zero, suc, nat_eq, Bool, true, false, cond, not, ◌||◌, List, [], ◌∷◌, map, Option, None, Some, refl, sym, ap, ◌∙◌}
use Rattle.std.specs.List.{list_all}
use Rattle.std.specs.Prelude.{is_some, is_none}
use Rattle.std.proofs.lemmas.Bool.{and_parts}
use Rattle.state_tuples.proofs.AppliedRules.OfEvents.{global_is, object_is}
use Rattle.state_tuples.specs.declared.applied_rules.rules.EventRules.{EventRules}
use Rattle.state_tuples.specs.AppliedRules.Events.{applied_of, AreOfEvent}
use Rattle.state_tuples.specs.Ways.Firsts.{takes, picked, first_taken, rule_taken}
use Rattle.block_flows.specs.Events.{AreOfEvents}
use Rattle.block_flows.specs.Firings.{acting, ObjectActs, GlobalActs}
use Rattle.block_flows.specs.QuietEvents.{is_silent, is_quiet, are_quiet}
use Rattle.c_objects.specs.Objects.{Object}
use Rattle.flow_graph.specs.CPaths.Events.{Event}
use Rattle.type_rules.specs.Options.{or_else}
use Rattle.path_model.specs.CheckerModel.Checkers.{model}
use Rattle.metal_tree.specs.MetalMachines.Machine.{stop}
use Rattle.path_model.specs.CheckerModel.Choices.{State, Taken, is_asked, is_global_asked, first_some, taken, taken_global}
use Rattle.path_model.specs.CheckerModel.Happenings.{Function, Happening}
use Rattle.path_model.specs.CheckerModel.Reports.{Checker}
use Rattle.path_theory.specs.EventWalks.Happenings.{HappensHere, ToObject, ToGlobal, HappensAt, Here, Later}
use Rattle.flow_graph.specs.Values.{event_of}
use Rattle.hole_matcher.specs.HoleBindings.Settings.{setting_in}
use Rattle.hole_matching.specs.Holes.{Setting}
use Rattle.path_theory.specs.Facts.{FactOf}
use Rattle.state_tuples.specs.RuleChoices.Asked.{Asker, GlobalState, ObjectIn}
use Rattle.state_tuples.specs.declared.rule_choices.fired.Fired.{Fired}
use Rattle.state_tuples.specs.RuleChoices.Values.{taken_of}
use Rattle.block_flows.specs.TupleFlows.Facts.{listed, origins_in}

no-action : {A : Type 0} (o : Option A) → is_none o ≡ true → is_some o ≡ false
no-action None h = refl
no-action (Some x) h = cc

-- of rules without an action none with one is the first
first-acts-none : (g : Setting) (e : Event) (state : ℕ) (a : Asker) (xs : List Fired) → list_all is_silent xs ≡ true → acting (rule_taken (first_some (picked g e state a) (map applied_of xs))) ≡ None
first-acts-none g e state a [] q = refl
first-acts-none g e state a (x ∷ xs) q =
    let p = and_parts (is_silent x) (list_all is_silent xs) q in
    by (takes g e state a (taken_of x)) p.0 (first-acts-none g e state a xs p.1)
  where
    by : (b : Bool) → is_silent x ≡ true → acting (rule_taken (first_some (picked g e state a) (map applied_of xs))) ≡ None
        → acting (rule_taken (or_else (cond b (Some (applied_of x)) None) (first_some (picked g e state a) (map applied_of xs)))) ≡ None
    by false s r = r
    by true s r = ap (λ z. cond z (Some (taken_of x)) None) (no-action (taken_of x).rule.action s)

taken-acts-none : (g : Setting) (e : Event) (asked : Bool) (state : ℕ) (a : Asker) (xs : List Fired) → list_all is_silent xs ≡ true
    → acting (rule_taken (first_taken g e asked state a (map applied_of xs))) ≡ None
taken-acts-none g e asked state a xs q = by (nat_eq state stop || not asked)
  where
    by : (b : Bool) → acting (rule_taken (cond b None (first_some (picked g e state a) (map applied_of xs)))) ≡ None
    by true = refl
    by false = first-acts-none g e state a xs q

module _ (c : Checker) (f : Function) (k : Bool) (followed : List Object) where
  abbrev HereIs : Happening → ℕ → FactOf Object State → Option Object → Taken → Type 0
  HereIs h = HappensHere (model c) (origins_in c followed followed) (listed c followed) (ObjectActs c) (GlobalActs c) f k h

  abbrev At : List Happening → ℕ → ℕ → FactOf Object State → Option Object → Taken → Type 0
  At = HappensAt (model c) (origins_in c followed followed) (listed c followed) (ObjectActs c) (GlobalActs c) f k

  module _ (h : Happening) (r : EventRules) (of : AreOfEvent c.machine c.depth h f r) (quiet : is_quiet r ≡ true) where
    object-none : (g : ℕ) (o : Object) (x : Option State) → acting (taken c.machine c.depth h f k g o x) ≡ None
    object-none g o x =
        ap acting (sym (object_is c.machine c.depth h f r of k (is_asked (event_of r.event) k o) g (ObjectIn o x) o x refl refl))
        ∙ taken-acts-none (setting_in r.setting) (event_of r.event) (is_asked (event_of r.event) k o) g (ObjectIn o x) r.applied.items quiet

    global-none : (g : ℕ) → acting (taken_global c.machine c.depth h f k g) ≡ None
    global-none g =
        ap acting (sym (global_is c.machine c.depth h f r of k (is_global_asked (event_of r.event) k) g refl))
        ∙ taken-acts-none (setting_in r.setting) (event_of r.event) (is_global_asked (event_of r.event) k) g GlobalState r.applied.items quiet

    none-here : (g : ℕ) (t : FactOf Object State) (q : Option Object) (a : Taken) → HereIs h g t q a → ⊥
    none-here g t _ a (ToObject o x i s w) = let n = object-none g o x in cc
    none-here g _ _ a (ToGlobal w) = let n = global-none g in cc

  -- WHERE ALL EVENTS ARE QUIET none is taken on the way
  pub none-taken : (hs : List Happening) (rs : List EventRules) → AreOfEvents c.machine c.depth f hs rs → are_quiet rs ≡ true
      → (n g : ℕ) (t : FactOf Object State) (q : Option Object) (a : Taken) → At hs n g t q a → ⊥
  none-taken [] rs of quiet n g t q a w = no-events n g t q a w
    where
      no-events : (n g : ℕ) (t : FactOf Object State) (q : Option Object) (a : Taken) → At [] n g t q a → ⊥
      no-events n g t q a w = elim w [ ]
  none-taken (h ∷ hs) [] of quiet n g t q a w = absurd of
  none-taken (h ∷ hs) (r ∷ rs) of quiet n g t q a w =
      let p = and_parts (is_quiet r) (are_quiet rs) quiet in
      split n g t q a w p.0 (none-taken hs rs of.1 p.1)
    where
      split : (n g : ℕ) (t : FactOf Object State) (q : Option Object) (a : Taken) → At (h ∷ hs) n g t q a → is_quiet r ≡ true
          → ((m g : ℕ) (u : FactOf Object State) (q : Option Object) (a : Taken) → At hs m g u q a → ⊥) → ⊥
      split _ g t q a (Here w) now later = none-here h r of.0 now g t q a w
      split _ g t q a (Later {n = m} {u = u} s w) now later = later m ((model c).next_global h f k g) u q a w
