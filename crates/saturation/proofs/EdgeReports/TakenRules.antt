-- A rule with an action that is taken on the way over events is a rule of the machine.
use Rattle.std.proofs.Common.{◌≡◌, ℕ, Bool, List, [], ◌∷◌, Option, Some, refl, sym, ap, ◌∙◌}
use Rattle.std.specs.Prelude.{is_some, nat_eq, not, ◌||◌}
use Rattle.block_flows.specs.Firings.{if_acting, acting, ObjectActs, GlobalActs, TakenAt, fire_in}
use Rattle.block_flows.specs.declared.taken_rules.Firing.{Firing}
use Rattle.c_objects.specs.Objects.{Object}
use Rattle.path_model.proofs.CheckerModel.Sources.{given, tested, untested}
use Rattle.path_model.specs.CheckerModel.Checkers.{model}
use Rattle.metal_tree.specs.MetalMachines.Machine.{stop}
use Rattle.path_model.specs.CheckerModel.Choices.{State, Taken, first_some, is_asked, is_global_asked, scene, taken, taken_global, object_rule, global_rule}
use Rattle.path_model.specs.CheckerModel.Happenings.{Function, Happening}
use Rattle.path_model.specs.CheckerModel.Reports as reports
use Rattle.path_theory.specs.EventWalks.Happenings.{HappensHere, ToObject, ToGlobal, HappensAt, Here, Later}
use Rattle.path_theory.specs.Facts.{FactOf}
use Rattle.state_tuples.specs.RuleChoices.Asked.{Asker, GlobalState, ObjectIn, asked_rule}
use Rattle.state_tuples.specs.RuleChoices.Values.{taken_of}
use Rattle.state_tuples.specs.declared.rule_choices.fired.Fired.{Fired}
use Rattle.state_tuples.proofs.Numbered.{all_numbered}
use Rattle.state_tuples.specs.Numbers.{IsRuleOf}
use Rattle.state_tuples.specs.declared.tuple.Tuple.{Tuple}
use Rattle.state_tuples.specs.TransitionReports.TakenRules.{checker_at}
use Rattle.state_tuples.specs.declared.transition_reports.checker.Checker.{Checker}
use Rattle.block_flows.specs.TupleFlows.Facts.{listed, origins_in, fact_in}

-- what is taken with an action is taken
acts : (q : Option Taken) (a : Taken) → acting q ≡ Some a → q ≡ Some a
acts q a e =
    let g = given q if_acting a e in
    g.1 ∙ (tested (is_some g.0.rule.action) (Some g.0) a g.2).1

module _ (k : Checker) (depth : ℕ) (f : Function) (is_root : Bool) (followed : List Object) (x : Fired) where
  abbrev c : reports.Checker
  c = checker_at k depth

  of-first : (h : Happening) (g : ℕ) (a : Asker) (t : Taken) → taken_of x ≡ t → first_some (asked_rule (scene c.machine depth h f) h.event g a) c.machine.rules ≡ Some t → IsRuleOf k.machine.now x.rule.now
  of-first h g a t same e = all_numbered k.machine.now (scene c.machine depth h f) h.event g a (Some x) k.machine.now.kept.limits.numbers (ap Some same ∙ sym e)

  of-object : (h : Happening) (g : ℕ) (o : Object) (s : Option State) (t : Taken) → taken_of x ≡ t → ObjectActs c h f is_root g o s t → IsRuleOf k.machine.now x.rule.now
  of-object h g o s t same e =
      of-first h g (ObjectIn o s) t same
      (untested (nat_eq g stop || not (is_asked h.event is_root o)) (first_some (object_rule (scene c.machine depth h f) h.event g o s) c.machine.rules) t
      (acts (taken c.machine depth h f is_root g o s) t e)).1

  of-global : (h : Happening) (g : ℕ) (t : Taken) → taken_of x ≡ t → GlobalActs c h f is_root g t → IsRuleOf k.machine.now x.rule.now
  of-global h g t same e =
      of-first h g GlobalState t same
      (untested (nat_eq g stop || not (is_global_asked h.event is_root)) (first_some (global_rule (scene c.machine depth h f) h.event g) c.machine.rules) t
      (acts (taken_global c.machine depth h f is_root g) t e)).1

  here : (h : Happening) (g : ℕ) (u : FactOf Object State) (q : Option Object) (t : Taken) → taken_of x ≡ t
      → HappensHere (model c) (origins_in c followed followed) (listed c followed) (ObjectActs c) (GlobalActs c) f is_root h g u q t → IsRuleOf k.machine.now x.rule.now
  here h g u _ t same (ToObject o s i w e) = of-object h g o s t same e
  here h g _ _ t same (ToGlobal e) = of-global h g t same e

  on-way : (hs : List Happening) (n g : ℕ) (u : FactOf Object State) (q : Option Object) (t : Taken) → taken_of x ≡ t
      → HappensAt (model c) (origins_in c followed followed) (listed c followed) (ObjectActs c) (GlobalActs c) f is_root hs n g u q t → IsRuleOf k.machine.now x.rule.now
  on-way [] n g u q t same w = elim w [ ]
  on-way (h ∷ hs) _ g u q t same (Here w) = here h g u q t same w
  on-way (h ∷ hs) _ g u q t same (Later {n = n} {u = v} s w) = on-way hs n ((model c).next_global h f is_root g) v q t same w

pub taken-rule : (k : Checker) (depth : ℕ) (f : Function) (is_root : Bool) (followed : List Object) (hs : List Happening) (t : Tuple) (x : Firing)
    → TakenAt (checker_at k depth) hs f is_root followed t (fire_in x) → IsRuleOf k.machine.now x.taken.now.rule.now
taken-rule k depth f is_root followed hs t x w =
    on-way k depth f is_root followed x.taken.now hs x.event t.global (fact_in t) x.object (taken_of x.taken.now) refl w
