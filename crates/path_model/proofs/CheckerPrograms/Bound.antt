-- An object that takes a rule while it is unknown is bound by an alternative of that rule, which begins in a global state.
use Rattle.std.proofs.Common.{◌≡◌, inl, inr, ℕ, List, [], ◌∷◌, Bool, true, false, Option, None, Some, refl, ◌∙◌, sym, ap, subst, cond, not, ◌||◌, nat_eq}
use Rattle.std.specs.Option.{option_to_list}
use Rattle.c_objects.specs.Objects.{Object}
use Rattle.flow_graph.proofs.CPaths.Listed.{among_front, among_back}
use Rattle.flow_graph.specs.CPaths.Events.{Event, Evaluated, Declared, Branched, Exited}
use Rattle.objects.specs.Equality.{same_object, same_object-true}
use Rattle.flow_graph.specs.CPaths.Membership.{Among}
use Rattle.type_rules.specs.Options.{◌>?◌, if_there, or_else}
use Rattle.path_model.specs.CheckerModel.Choices.{Gives, State, Taken, first_some, applied, target_at, by_alternative, from_global, begins_globally, variable_of, led_variables, rule_variables, binds, is_asked, object_rule, scene, taken, chosen, object_behind}
use Rattle.path_model.specs.CheckerModel.Happenings.{Function, Happening}
use Rattle.path_model.specs.CheckerModel.Reports.{Checker, Fires, report_of}
use Rattle.path_model.proofs.CheckerModel.Sources.{given, tested, untested}
use Rattle.hole_matching.specs.Alternatives.{bound_object}
use Rattle.hole_matching.specs.Matching.{Binding}
use Rattle.metal_tree.specs.MetalMachines.Machine.{stop, Source, FromGlobal, FromObject, Target, Dest, Always, ByTruth, Rule}
use Rattle.report_model.specs.declared.report.Report.{Report}

-- the first that gives something is among them
first-found : {A B : Type 0} (f : A → Option B) (xs : List A) (y : B) → first_some f xs ≡ Some y → (x : A) × Among x xs × (f x ≡ Some y)
first-found f [] y h = cc
first-found {A = A} {B = B} f (x ∷ xs) y h = by (first-found f xs y) (f x) refl h
  where
    by : (first_some f xs ≡ Some y → (z : A) × Among z xs × (f z ≡ Some y)) → (q : Option B) → f x ≡ q → or_else q (first_some f xs) ≡ Some y → (z : A) × Among z (x ∷ xs) × (f z ≡ Some y)
    by later None e k = let g = later k in (g.0, inr g.1, g.2)
    by later (Some q) e k = let same : Some q ≡ Some y = k in (x, inl refl, e ∙ same)

-- where a rule leads at an event is of one of its variables
among-one : (t : Target) (v : ℕ) → variable_of t ≡ Some v → Among v (option_to_list (variable_of t))
among-one t v e = subst (λ (z : Option ℕ). Among v (option_to_list z)) (sym e) (inl refl)

led-true : (a b : Target) (v : ℕ) → variable_of a ≡ Some v → Among v (led_variables (ByTruth a b))
led-true a b v k = among_front v (option_to_list (variable_of a)) (option_to_list (variable_of b)) (among-one a v k)

led-false : (a b : Target) (v : ℕ) → variable_of b ≡ Some v → Among v (led_variables (ByTruth a b))
led-false a b v k = among_back v (option_to_list (variable_of a)) (option_to_list (variable_of b)) (among-one b v k)

led-among : (e : Event) (d : Dest) (v : ℕ) → variable_of (target_at e d) ≡ Some v → Among v (led_variables d)
led-among e (Always t) v k = among-one t v k
led-among (Branched n true) (ByTruth a b) v k = led-true a b v k
led-among (Branched n false) (ByTruth a b) v k = led-false a b v k
led-among (Evaluated s) (ByTruth a b) v k = led-true a b v k
led-among (Declared x) (ByTruth a b) v k = led-true a b v k
led-among (Exited function place) (ByTruth a b) v k = led-true a b v k

variable-among : (e : Event) (state : ℕ) (s : Source) (d : Dest) (v : ℕ) → from_global state s ≡ true → variable_of (target_at e d) ≡ Some v → Among v (rule_variables s d)
variable-among e state (FromGlobal q) d v g k = led-among e d v k
variable-among e state (FromObject x q) d v g k = cc

begins : (state : ℕ) (s : Source) → from_global state s ≡ true → begins_globally s ≡ true
begins state (FromGlobal q) e = refl
begins state (FromObject v q) e = cc

module _ (c : Checker) (f : Function) (h : Happening) (o : Object) where
  -- a binding that has the object
  has-object : (v : ℕ) (b : Binding) → binds (scene c.machine c.depth h f) v o b ≡ true → bound_object (scene c.machine c.depth h f) v b ≡ Some o
  has-object v b e = by (bound_object (scene c.machine c.depth h f) v b) refl e
    where
      by : (q : Option Object) → bound_object (scene c.machine c.depth h f) v b ≡ q → if_there q false (same_object o) ≡ true → bound_object (scene c.machine c.depth h f) v b ≡ Some o
      by None e k = cc
      by (Some q) e k = e ∙ ap Some (sym (same_object-true o q k))

  -- the alternative by which a rule binds it
  by-items : (r : Rule) (v : ℕ) (t : Taken) → Among r c.machine.rules → begins_globally r.source ≡ true → Among v (rule_variables r.source r.dest) → by_alternative (scene c.machine c.depth h f) h.event r (binds (scene c.machine c.depth h f) v o) ≡ Some t → Gives c.machine c.depth f h o
  by-items r v t among from of e =
      let found = first-found (λ items. applied (scene c.machine c.depth h f) h.event r.dest items >? λ b. cond (binds (scene c.machine c.depth h f) v o b) (Some (record { rule = r; binding = b })) None) r.alternatives t e in
      let applies = given (applied (scene c.machine c.depth h f) h.event r.dest found.0) (λ b. cond (binds (scene c.machine c.depth h f) v o b) (Some (record { rule = r; binding = b })) None) t found.2 in
      let bound = tested (binds (scene c.machine c.depth h f) v o applies.0) (Some (record { rule = r; binding = applies.0 })) t applies.2 in
      record {
        binds = record { rule = r; among = among; items = found.0; alternative = found.1; binding = applies.0; applies = applies.1; variable = v; of_rule = of; bound = has-object v applies.0 bound.0 };
        begins = from;
      }

  pub taken-gives : (k : Bool) (state : ℕ) (t : Taken) → taken c.machine c.depth h f k state o None ≡ Some t → Gives c.machine c.depth f h o
  taken-gives k state t e =
      let some = untested (nat_eq state stop || not (is_asked h.event k o)) (first_some (object_rule (scene c.machine c.depth h f) h.event state o None) c.machine.rules) t e in
      let found = first-found (object_rule (scene c.machine c.depth h f) h.event state o None) c.machine.rules t some.1 in
      let rule : Rule = found.0 in
      let from = tested (from_global state rule.source) (variable_of (target_at h.event rule.dest) >? λ v. by_alternative (scene c.machine c.depth h f) h.event rule (binds (scene c.machine c.depth h f) v o)) t found.2 in
      let v = given (variable_of (target_at h.event rule.dest)) (λ v. by_alternative (scene c.machine c.depth h f) h.event rule (binds (scene c.machine c.depth h f) v o)) t from.1 in
      by-items rule v.0 t found.1 (begins state rule.source from.0) (variable-among h.event state rule.source rule.dest v.0 from.0 v.1) v.2

  pub chosen-gives : (k : Bool) (state : ℕ) (x : State) → chosen c.machine c.depth h f k state o None ≡ Some x → Gives c.machine c.depth f h o
  chosen-gives k state x e = by (taken c.machine c.depth h f k state o None) refl e
    where
      by : (q : Option Taken) → taken c.machine c.depth h f k state o None ≡ q → if_there q None (λ t. object_behind (target_at h.event t.rule.dest) None) ≡ Some x → Gives c.machine c.depth f h o
      by None a b = cc
      by (Some t) a b = taken-gives k state t a

  pub fires-gives : (k : Bool) (state : ℕ) (r : Report) → Fires c h f k state o None r → Gives c.machine c.depth f h o
  fires-gives k state r e = let t = given (taken c.machine c.depth h f k state o None) (report_of c h f (Some o)) r e in taken-gives k state t.0 t.1
