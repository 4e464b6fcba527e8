-- WHO TAKES AN ALTERNATIVE, by number, is who takes its rule.
use Rattle.std.proofs.Common.{◌≡◌, ◌∙◌, refl, ap, ℕ, nat_eq, Bool, true, false, cond, not, ◌&&◌, ◌||◌, List, Option, None, Some, eqb-true, eq-eqb}
use Rattle.std.proofs.lemmas.Bool.{and_parts}
use Rattle.c_objects.specs.Objects.{Object}
use Rattle.numbered_program.specs.EventTables.Alternatives.{alternative_row, bound_number}
use Rattle.numbered_program.specs.EventTables.RuleEnds.{numbered_source, numbered_target, variable_asked}
use Rattle.flow_graph.specs.CPaths.Events.{Event}
use Rattle.hole_matching.specs.Alternatives.{bound_object}
use Rattle.hole_matching.specs.Holes.{Setting}
use Rattle.hole_matching.specs.Matching.{Binding}
use Rattle.least_set.specs.Logs.{IsOnce}
use Rattle.metal_tree.specs.MetalMachines.Machine.{Source, FromGlobal, FromObject, Target, ToGlobal, ToObject, ToUnknown}
use Rattle.numbered_program.proofs.NumberedEvents.ItemNumbers.{is_number, not_none, object_number, state_number}
use Rattle.numbered_program.specs.NumberedTuples.FollowedObjects.{number_of}
use Rattle.objects.specs.Equality.{same_object}
use Rattle.path_model.specs.CheckerModel.Choices.{State, binds, from_global, from_object, is_exit, leads_to_global, target_at, variable_of}
use Rattle.row_flows.specs.Choices.{bare, begins_globally, begins_known, global_takes, known_takes, leads_globally, takes, unknown_takes}
use Rattle.row_flows.specs.Numbers.{item_numbered}
use Rattle.row_flows.specs.declared.rows.Applied as row
use Rattle.row_flows.specs.declared.tuples.NumberedTuple.{NumberedTuple}
use Rattle.state_tuples.specs.AppliedRules.Applied.{Applied}
use Rattle.state_tuples.specs.Ways.Firsts as rule
use Rattle.state_tuples.specs.RuleChoices.Asked.{GlobalState, ObjectIn}
use Rattle.type_rules.specs.Options.{if_there}

-- ---- tests together

one_group : (a b c d e : Bool) → b ≡ d → c ≡ e → a && (not b && c) ≡ (a && not d) && e
one_group true b c d e p q = λ i. not (p i) && q i
one_group false b c d e p q = refl

where_first : (a b c : Bool) → (a ≡ true → b ≡ c) → a && b ≡ a && c
where_first true b c h = h refl
where_first false b c h = refl

with_no_other : (a b c d : Bool) → a ≡ c → b ≡ d → a && b ≡ (c && d) && true
with_no_other a b c d p q = ap (λ z. z && b) p ∙ ap (λ z. c && z) q ∙ by (c && d)
  where
    by : (x : Bool) → x ≡ x && true
    by true = refl
    by false = refl

-- ---- where it begins, and where it leads

begins_same : (states : List State) (g : ℕ) (s : Source) → begins_globally g (numbered_source states s) ≡ from_global g s
begins_same states g (FromGlobal q) = refl
begins_same states g (FromObject v q) = refl

leads_same : (states : List State) (t : Target) → leads_globally (numbered_target states t) ≡ leads_to_global t
leads_same states (ToGlobal q) = refl
leads_same states (ToObject v q) = refl
leads_same states (ToUnknown v) = refl

begins_there : (states : List State) → IsOnce states → (n : ℕ) (x : State) → item_numbered states n ≡ Some x → (s : Source) → begins_known n (numbered_source states s) ≡ from_object x s
begins_there states once n x is (FromGlobal q) = refl
begins_there states once n x is (FromObject v q) = state_number states once n x is (v, q)

-- ---- the global state

pub global_takes_rule : (followed : List Object) (states : List State) (s : Setting) (e : Event) (end : Bool) (g : ℕ) (x : Applied)
    → takes end (bare g) (alternative_row followed states s e x) ≡ rule.takes s e g GlobalState x.taken
global_takes_rule followed states s e end g x =
    with_no_other (begins_globally g (numbered_source states x.taken.rule.source)) (leads_globally (numbered_target states (target_at e x.taken.rule.dest)))
    (from_global g x.taken.rule.source) (leads_to_global (target_at e x.taken.rule.dest)) (begins_same states g x.taken.rule.source) (leads_same states (target_at e x.taken.rule.dest))

-- ---- an object

module _ (followed : List Object) (objects_once : IsOnce followed) (states : List State) (states_once : IsOnce states) (s : Setting) (e : Event) (n : ℕ) (o : Object)
    (is : item_numbered followed n ≡ Some o) where
  by_object : (z : Option Object) → nat_eq (if_there z 0 (number_of followed)) n ≡ if_there z false (same_object o)
  by_object None = not_none followed n o is
  by_object (Some p) = object_number followed objects_once n o is p

  -- the object that is bound for a variable, if there is one, is this one
  bound_same : (b : Binding) (v : Option ℕ) → nat_eq (bound_number followed s v b) n ≡ if_there v false (λ u. binds s u o b)
  bound_same b None = not_none followed n o is
  bound_same b (Some v) = by_object (bound_object s v b)

  -- while it is unknown
  unknown_so : (g : ℕ) (q : Source) (t : Target) (b : Binding)
      → begins_globally g (numbered_source states q) && (not (leads_globally (numbered_target states t)) && nat_eq (bound_number followed s (variable_asked q t) b) n)
      ≡ (from_global g q && not (leads_to_global t)) && if_there (variable_of t) false (λ v. binds s v o b)
  unknown_so g (FromObject v q) t b = refl
  unknown_so g (FromGlobal q) t b =
      one_group (nat_eq q g) (leads_globally (numbered_target states t)) (nat_eq (bound_number followed s (variable_of t) b) n) (leads_to_global t)
      (if_there (variable_of t) false (λ v. binds s v o b)) (leads_same states t) (bound_same b (variable_of t))

  -- and in a state that is known
  known_so : (end : Bool) (m : ℕ) (x : State) → item_numbered states m ≡ Some x → (q : Source) (t : Target) (b : Binding)
      → begins_known m (numbered_source states q) && (end || nat_eq (bound_number followed s (variable_asked q t) b) n) ≡ from_object x q && (end || binds s x.0 o b)
  known_so end m x has (FromGlobal q) t b = refl
  known_so end m x has (FromObject v q) t b =
      ap (λ z. z && (end || nat_eq (bound_number followed s (Some v) b) n)) (begins_there states states_once m x has (FromObject v q))
      ∙ where_first (nat_eq v x.0 && nat_eq q x.1) (end || nat_eq (bound_number followed s (Some v) b) n) (end || binds s x.0 o b)
      (λ h. ap (λ z. end || z) (bound_same b (Some v)) ∙ ap (λ u. end || binds s u o b) (eqb-true v x.0 (and_parts (nat_eq v x.0) (nat_eq q x.1) h).0))

  -- a tuple of it, by its state: the number 0 is that of the unknown one
  object_takes : (g m : ℕ) (end : Bool) → end ≡ is_exit e → (z : Option State) → item_numbered states m ≡ z → (z ≡ None → m ≡ 0) → (x : Applied)
      → takes end (record { global = g; state = m; object = n }) (alternative_row followed states s e x) ≡ rule.takes s e g (ObjectIn o z) x.taken
  object_takes g m end ends None has unknown x =
      let a : row.Applied = alternative_row followed states s e x in
      ap (λ b. cond b (global_takes g a) (cond (nat_eq m 0) (unknown_takes g n a) (known_takes end m n a))) (is_number followed n o is)
      ∙ ap (λ b. cond b (unknown_takes g n a) (known_takes end m n a)) (eq-eqb m 0 (unknown refl))
      ∙ unknown_so g x.taken.rule.source (target_at e x.taken.rule.dest) x.taken.binding
  object_takes g m end ends (Some y) has unknown x =
      let a : row.Applied = alternative_row followed states s e x in
      ap (λ b. cond b (global_takes g a) (cond (nat_eq m 0) (unknown_takes g n a) (known_takes end m n a))) (is_number followed n o is)
      ∙ ap (λ b. cond b (unknown_takes g n a) (known_takes end m n a)) (is_number states m y has)
      ∙ known_so end m y has x.taken.rule.source (target_at e x.taken.rule.dest) x.taken.binding
      ∙ ap (λ b. from_object y x.taken.rule.source && (b || binds s y.0 o x.taken.binding)) ends

pub object_takes_rule : (followed : List Object) → IsOnce followed → (states : List State) → IsOnce states → (s : Setting) (e : Event) (end : Bool) → end ≡ is_exit e
    → (t : NumberedTuple) (o : Object) → item_numbered followed t.object ≡ Some o → (item_numbered states t.state ≡ None → t.state ≡ 0) → (x : Applied)
    → takes end t (alternative_row followed states s e x) ≡ rule.takes s e t.global (ObjectIn o (item_numbered states t.state)) x.taken
object_takes_rule followed once states states_once s e end ends t o is unknown x =
    object_takes followed once states states_once s e t.object o is t.global t.state end ends (item_numbered states t.state) refl unknown x
