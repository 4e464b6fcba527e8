-- The objects of the bindings that are asked are exactly those that alternatives of such rules bind.
use Rattle.std.proofs.Common.{arith, ◌≡◌, ℕ, Bool, true, false, cond, List, [], Contains, Option, None, Some, refl, sym, ap, subst}
use Rattle.std.specs.Prelude.{◌↔◌}
use Rattle.std.specs.List.{enumerate_from}
use Rattle.std.specs.Option.{option_map}
use Rattle.state_tuples.proofs.AppliedRules.Lists.{with-number, without-number, among, contained, given-stands, stands-given, the-one, one-stands}
use Rattle.state_tuples.specs.AppliedRules.Applied.{Applied, with_number, taken_with, applied_alternative, applied_rule, applied_at}
use Rattle.state_tuples.specs.AppliedRules.Bound.{object_of, objects_of, bound_with, begins_in, asked_with, bound_by, BindsFrom}
use Rattle.state_tuples.specs.declared.applied_rules.sources.RuleSources.{RuleSources}
use Rattle.state_tuples.specs.declared.applied_rules.sources.RuleSources.TheVariants as sources
use Rattle.c_objects.specs.Objects.{Object}
use Rattle.flow_graph.specs.CPaths.Membership.{Among}
use Rattle.path_model.specs.CheckerModel.Choices.{Taken, Binds, applied, rule_variables, scene}
use Rattle.path_model.specs.CheckerModel.Happenings.{Function, Happening}
use Rattle.hole_matching.specs.Alternatives.{bound_object}
use Rattle.hole_matching.specs.Holes.{Setting}
use Rattle.hole_matching.specs.Matching.{Binding}
use Rattle.metal_tree.specs.MetalMachines.Machine.{Item, Rule, Machine}

-- ---- variables, one by one

module _ (g : Setting) (b : Binding) where
  -- a variable that has taken the object gives it, and no other does
  bound-stands : (vs : List ℕ) (v : ℕ) (o : Object) → Among v vs → bound_object g v b ≡ Some o → Contains (objects_of g b vs) o
  bound-stands vs v o m h = given-stands (object_of g b) vs v o (contained vs v m) (one-stands (bound_object g v b) o h)

  stands-bound : (vs : List ℕ) (o : Object) → Contains (objects_of g b vs) o → (v : ℕ) × Among v vs × (bound_object g v b ≡ Some o)
  stands-bound vs o h =
      let s = stands-given (object_of g b) vs o h in
      (s.0, among vs s.0 s.1, the-one (bound_object g s.0 b) o s.2)

-- by which alternative a rule applies with a binding
made-by : (r : Rule) (n : ℕ) (x : Option Binding) (t : Applied) → option_map (λ b. with_number n (taken_with r b)) x ≡ Some t → (x ≡ Some t.taken.binding) × (t.taken.rule ≡ r)
made-by r n None t h = cc
made-by r n (Some b) t h =
    let same : with_number n (taken_with r b) ≡ t = cc in
    (ap (λ (z : Applied). Some z.taken.binding) same, sym (ap (λ (z : Applied). z.taken.rule) same))

-- ---- rules that are asked

module _ (w : RuleSources) (g : Setting) (x : Applied) (o : Object) where
  asked-stands : begins_in w x.taken.rule.source ≡ true → Contains (bound_with g x) o → Contains (asked_with w g x) o
  asked-stands e h = subst (λ (b : Bool). Contains (cond b (bound_with g x) []) o) (sym e) h

  stands-asked : Contains (asked_with w g x) o → (begins_in w x.taken.rule.source ≡ true) × Contains (bound_with g x) o
  stands-asked h = by (begins_in w x.taken.rule.source) refl h
    where
      by : (b : Bool) → begins_in w x.taken.rule.source ≡ b → Contains (cond b (bound_with g x) []) o → (begins_in w x.taken.rule.source ≡ true) × Contains (bound_with g x) o
      by true e k = (e, k)
      by false e k = let lt = k.1 in absurd (omega arith)

module _ (m : Machine) (depth : ℕ) (h : Happening) (f : Function) (o : Object) where
  abbrev at : Setting
  at = scene m depth h f

  binds-stands : (w : RuleSources) (b : Binds m depth f h o) → begins_in w b.rule.source ≡ true → Contains (bound_by w at (applied_at at h.event m.rules)) o
  binds-stands w b e =
      let rule : Rule = b.rule in
      let number = with-number 0 rule.alternatives b.items b.alternative in
      let x : Applied = with_number number.0 (taken_with rule b.binding) in
      let by-items = one-stands (option_map (λ z. with_number number.0 (taken_with rule z)) (applied at h.event rule.dest b.items)) x (ap (option_map (λ z. with_number number.0 (taken_with rule z))) b.applies) in
      let by-rule = given-stands (applied_alternative at h.event rule) (enumerate_from 0 rule.alternatives) (number.0, b.items) x (contained (enumerate_from 0 rule.alternatives) (number.0, b.items) number.1) by-items in
      let stands = given-stands (applied_rule at h.event) m.rules rule x (contained m.rules rule b.among) by-rule in
      given-stands (asked_with w at) (applied_at at h.event m.rules) x o stands
      (asked-stands w at x o e (bound-stands at b.binding (rule_variables rule.source rule.dest) b.variable o b.of_rule b.bound))

  stands-binds : (w : RuleSources) → Contains (bound_by w at (applied_at at h.event m.rules)) o → (b : Binds m depth f h o) × (begins_in w b.rule.source ≡ true)
  stands-binds w k =
      let t = stands-given (asked_with w at) (applied_at at h.event m.rules) o k in
      let asked = stands-asked w at t.0 o t.2 in
      let r = stands-given (applied_rule at h.event) m.rules t.0 t.1 in
      let rule : Rule = r.0 in
      let taken : Taken = t.0.taken in
      let i = stands-given (applied_alternative at h.event rule) (enumerate_from 0 rule.alternatives) t.0 r.2 in
      let items : List Item = i.0.1 in
      let made = made-by rule i.0.0 (applied at h.event rule.dest items) t.0 (the-one (option_map (λ b. with_number i.0.0 (taken_with rule b)) (applied at h.event rule.dest items)) t.0 i.2) in
      let same : taken.rule ≡ rule = made.1 in
      let bound = stands-bound at taken.binding (rule_variables rule.source rule.dest) o (subst (λ (z : Rule). Contains (objects_of at taken.binding (rule_variables z.source z.dest)) o) same asked.1) in (
        record {
          rule = rule;
          among = among m.rules rule r.1;
          items = items;
          alternative = without-number 0 rule.alternatives i.0 (among (enumerate_from 0 rule.alternatives) i.0 i.1);
          binding = taken.binding;
          applies = made.0;
          variable = bound.0;
          of_rule = bound.1;
          bound = bound.2;
        },
        subst (λ (z : Rule). begins_in w z.source ≡ true) same asked.0,
      )

  pub exactly_bound : (w : RuleSources) → Contains (bound_by w at (applied_at at h.event m.rules)) o ↔ BindsFrom w m depth f h o
  exactly_bound sources.AnyState = (λ k. (stands-binds sources.AnyState k).0, λ b. binds-stands sources.AnyState b refl)
  exactly_bound sources.GlobalStates = (λ k. let s = stands-binds sources.GlobalStates k in record { binds = s.0; begins = s.1 }, λ g. binds-stands sources.GlobalStates g.binds g.begins)
