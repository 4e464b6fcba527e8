-- An alternative that applies at an event is one of a rule of the machine.
use Rattle.std.proofs.Common.{arith, ◌≡◌, ◌∙◌, ◌+◌, ℕ, zero, suc, List, [], ◌∷◌, Option, None, Some, Contains, slice_get, sym, ap, subst}
use Rattle.std.specs.List.{enumerate_from}
use Rattle.std.specs.Option.{option_map}
use Rattle.std.proofs.lemmas.List.{length-map}
use Rattle.std.proofs.lemmas.Option.{slice_get-map}
use Rattle.flow_graph.specs.CPaths.Events.{Event}
use Rattle.hole_matching.specs.Holes.{Setting}
use Rattle.hole_matching.specs.Matching.{Binding}
use Rattle.least_set.proofs.Growing.{at_place, place_of}
use Rattle.metal_tree.proofs.MetalMachines.Found.{found as by-number}
use Rattle.metal_tree.specs.MetalMachines.Limits.{AreNumbered}
use Rattle.metal_tree.specs.MetalMachines.Machine.{Item, Rule}
use Rattle.metal_tree.specs.MetalMachines.Rules.{rule_numbered}
use Rattle.metal_tree.specs.Views.{rule_view, rule_views}
use Rattle.metal_tree.specs.Whole.{machine_view}
use Rattle.metal_tree.specs.declared.machine.Machine as code
use Rattle.metal_tree.specs.declared.rules.Rule as written
use Rattle.path_model.specs.CheckerModel.Choices.{applied, scene}
use Rattle.path_model.specs.CheckerModel.Happenings.{Function, Happening}
use Rattle.state_tuples.proofs.AppliedRules.Lists.{stands-given, the-one}
use Rattle.state_tuples.specs.AppliedRules.Applied.{Applied, applied_alternative, applied_at, applied_rule, taken_with, with_number}
use Rattle.state_tuples.specs.AppliedRules.Events.{AreOfEvent, applied_of}
use Rattle.state_tuples.specs.Numbers.{IsRuleOf}
use Rattle.state_tuples.specs.declared.applied_rules.rules.EventRules.{EventRules}
use Rattle.state_tuples.specs.declared.rule_choices.fired.Fired.{Fired}

-- ---- its rule is one of those that are matched

module _ (g : Setting) (e : Event) where
  of-alternative : (r : Rule) (x : ℕ × List Item) (a : Applied) → Contains (applied_alternative g e r x) a → a.taken.rule ≡ r
  of-alternative r x a h =
      by (applied g e r.dest x.1) (the-one (option_map (λ (b : Binding). with_number x.0 (taken_with r b)) (applied g e r.dest x.1)) a h)
    where
      by : (o : Option Binding) → option_map (λ (b : Binding). with_number x.0 (taken_with r b)) o ≡ Some a → a.taken.rule ≡ r
      by None k = cc
      by (Some b) k = let same : with_number x.0 (taken_with r b) ≡ a = cc in sym (ap (λ (z : Applied). z.taken.rule) same)

  of-rule : (r : Rule) (a : Applied) → Contains (applied_rule g e r) a → a.taken.rule ≡ r
  of-rule r a h = let s = stands-given (applied_alternative g e r) (enumerate_from 0 r.alternatives) a h in of-alternative r s.0 a s.2

  of-rules : (rules : List Rule) (a : Applied) → Contains (applied_at g e rules) a → Contains rules a.taken.rule
  of-rules rules a h =
      let s = stands-given (applied_rule g e) rules a h in
      subst (Contains rules) (sym (of-rule s.0 a s.2)) s.1

-- ---- which has its number

number-at : (number k : ℕ) (rs : List Rule) (r : Rule) → AreNumbered number rs → slice_get rs k ≡ Some r → r.number ≡ number + k
number-at number k [] r n e = cc
number-at number zero (x ∷ rs) r n e =
    let same : x ≡ r = cc in
    let here : r.number ≡ number = sym (ap (λ (z : Rule). z.number) same) ∙ n.0 in
    omega (arith, here)
number-at number (suc k) (x ∷ rs) r n e =
    let later : r.number ≡ number + 1 + k = number-at (number + 1) k rs r n.1 e in
    omega (arith, later)

is-rule : (m : code.Machine) (r : written.Rule) → AreNumbered 1 (rule_views m.rules.now) → Contains (rule_views m.rules.now) (rule_view r) → IsRuleOf m r
is-rule m r n h =
    let rs = rule_views m.rules.now in
    let p = place_of rs (rule_view r) h in
    let number : r.number ≡ 1 + p.0 = number-at 1 p.0 rs (rule_view r) n p.2 in
    let within = p.1 in
    let same = length-map m.rules.now rule_view in
    record {
      low = omega arith;
      high = omega arith;
      found = ap (λ k. rule_numbered k rs) number ∙ by-number 1 p.0 rs n ∙ p.2;
    }

-- ---- as the rules of an event have it

module _ (m : code.Machine) (depth : ℕ) (f : Function) (h : Happening) (r : EventRules) (is : AreOfEvent (machine_view m) depth h f r) where
  pub alternative-there : (place : ℕ) (a : Fired) → slice_get r.applied.items place ≡ Some a
      → slice_get (applied_at (scene (machine_view m) depth h f) h.event (machine_view m).rules) place ≡ Some (applied_of a)
  alternative-there place a at = ap (λ l. slice_get l place) (sym is.applied) ∙ slice_get-map applied_of r.applied.items place ∙ ap (option_map applied_of) at

  -- THE RULE of an alternative that applies
  pub applied-rule : (place : ℕ) (a : Fired) → AreNumbered 1 (rule_views m.rules.now) → slice_get r.applied.items place ≡ Some a → IsRuleOf m a.rule.now
  applied-rule place a n at =
      let list = applied_at (scene (machine_view m) depth h f) h.event (machine_view m).rules in
      is-rule m a.rule.now n
      (of-rules (scene (machine_view m) depth h f) h.event (machine_view m).rules (applied_of a) (at_place list place (applied_of a) (alternative-there place a at)))
