-- CHOICES: the rule that the global state takes at an event, and the rule that an object takes. All of them look at the states behind
-- the event's move.
use Rattle.std.specs.Prelude.{◌≡◌, ℕ, nat_eq, List, [], ◌∷◌, ◌++◌, Bool, true, false, cond, not, ◌&&◌, ◌||◌, Option, None, Some}
use Rattle.std.specs.Option.{option_to_list}
use Rattle.c_objects.specs.Objects.{Object}
use Rattle.flow_graph.specs.CPaths.Events.{Event, Evaluated, Declared, Branched, Exited}
use Rattle.flow_graph.specs.CPaths.Membership.{Among}
use Rattle.type_rules.specs.Options.{if_there, or_else, ◌>?◌}
use Rattle.hole_matching.specs.Alternatives.{matched_alternative, has_end_of_path, all_hold, bound_object}
use Rattle.hole_matching.specs.Callouts.{is_local}
use Rattle.hole_matching.specs.Holes.{Setting}
use Rattle.hole_matching.specs.MachineMatches.{setting_of}
use Rattle.hole_matching.specs.Matched.{nothing_taken}
use Rattle.hole_matching.specs.Matching.{Binding}
use Rattle.objects.specs.Equality.{same_object}
use Rattle.metal_tree.specs.MetalMachines.Machine.{stop, Source, FromGlobal, FromObject, Target, ToGlobal, ToObject, ToUnknown, Dest, Always, ByTruth, Item, Rule, Machine}
use Rattle.c_tree.specs.PathSubjects.Subjects.{Tree}
use Rattle.path_model.specs.CheckerModel.Happenings.{Function, Happening}

-- a state of an object: the variable that it is of, and its number
abbrev pub State : Type 0
State = ℕ × ℕ

abbrev pub first_some : {A B : Type 0} → (A → Option B) → List A → Option B
first_some f [] = None
first_some f (x ∷ xs) = or_else (f x) (first_some f xs)

abbrev pub is_split : Dest → Bool
is_split (Always t) = false
is_split (ByTruth on_true on_false) = true

-- AN ALTERNATIVE APPLIES with this binding. At a node those apply that ask nothing of the end of a path, of the rules that aren't
-- split; at a branch those of the split rules; at an exit those that ask for the end of a path, where no hole has taken anything.
abbrev pub applied : Setting → Event → Dest → List Item → Option Binding
applied g (Evaluated s) d items = cond (is_split d || has_end_of_path items) None (matched_alternative g items s)
applied g (Branched n truth) d items = cond (not (is_split d) || has_end_of_path items) None (matched_alternative g items (Tree n))
applied g (Exited function place) d items = cond (has_end_of_path items && all_hold g items nothing_taken) (Some nothing_taken) None
applied g (Declared x) d items = None

-- where a rule leads at an event: a split one by the truth of the branch
abbrev pub target_at : Event → Dest → Target
target_at e (Always t) = t
target_at (Branched n truth) (ByTruth on_true on_false) = cond truth on_true on_false
target_at e (ByTruth on_true on_false) = on_true

-- a rule that is taken, with the binding of the alternative by which it is
pub record Taken : Type 0 where
  pub rule : Rule
  pub binding : Binding

-- the first alternative of a rule that applies with such a binding
abbrev pub by_alternative : Setting → Event → Rule → (Binding → Bool) → Option Taken
by_alternative g e r fits = first_some (λ items. applied g e r.dest items >? λ b. cond (fits b) (Some (record { rule = r; binding = b })) None) r.alternatives

abbrev pub from_global : ℕ → Source → Bool
from_global state (FromGlobal q) = nat_eq q state
from_global state (FromObject v q) = false

abbrev pub from_object : State → Source → Bool
from_object state (FromGlobal q) = false
from_object state (FromObject v q) = nat_eq v state.0 && nat_eq q state.1

-- it begins in a global state, whichever that is
abbrev pub begins_globally : Source → Bool
begins_globally (FromGlobal q) = true
begins_globally (FromObject v q) = false

abbrev pub leads_to_global : Target → Bool
leads_to_global (ToGlobal q) = true
leads_to_global _ = false

-- the variable of whose object a target speaks
abbrev pub variable_of : Target → Option ℕ
variable_of (ToGlobal q) = None
variable_of (ToObject v q) = Some v
variable_of (ToUnknown v) = Some v

-- the binding has this object for the variable
abbrev pub binds : Setting → ℕ → Object → Binding → Bool
binds g v o b = if_there (bound_object g v b) false (same_object o)

abbrev pub always : Binding → Bool
always b = true

abbrev pub is_exit : Event → Bool
is_exit (Exited function place) = true
is_exit _ = false

-- At the end of a called function only its own objects are asked: those of its local variables, and neither those of parameters nor
-- global ones. At the end of a root all are asked, and so is the global state.
abbrev pub is_asked : Event → Bool → Object → Bool
is_asked e is_root o = not (is_exit e) || is_root || is_local o.base

abbrev pub is_global_asked : Event → Bool → Bool
is_global_asked e is_root = not (is_exit e) || is_root

-- the rule that the global state takes: from it, to a global state
abbrev pub global_rule : Setting → Event → ℕ → Rule → Option Taken
global_rule g e state r = cond (from_global state r.source && leads_to_global (target_at e r.dest)) (by_alternative g e r always) None

-- the rule that an unknown object takes: from the global state, to a state of the object that it binds
abbrev pub unknown_rule : Setting → Event → ℕ → Object → Rule → Option Taken
unknown_rule g e state o r = cond (from_global state r.source) (variable_of (target_at e r.dest) >? λ v. by_alternative g e r (binds g v o)) None

-- the rule that a known object takes: from its state, binding it; at an exit any that applies
abbrev pub known_rule : Setting → Event → State → Object → Rule → Option Taken
known_rule g e state o r = cond (from_object state r.source) (by_alternative g e r (λ b. is_exit e || binds g state.0 o b)) None

abbrev pub object_rule : Setting → Event → ℕ → Object → Option State → Rule → Option Taken
object_rule g e state o None = unknown_rule g e state o
object_rule g e state o (Some x) = known_rule g e x o

abbrev pub scene : Machine → ℕ → Happening → Function → Setting
scene m depth h f = setting_of m h.facts depth f.name

-- THE RULE THAT THE GLOBAL STATE TAKES: the first in the order of their numbers. In `stop` none is taken.
abbrev pub taken_global : Machine → ℕ → Happening → Function → Bool → ℕ → Option Taken
taken_global m depth h f is_root state =
    cond (nat_eq state stop || not (is_global_asked h.event is_root)) None
    (first_some (global_rule (scene m depth h f) h.event state) m.rules)

-- THE RULE THAT AN OBJECT TAKES, by its state behind the move
abbrev pub taken : Machine → ℕ → Happening → Function → Bool → ℕ → Object → Option State → Option Taken
taken m depth h f is_root state o x =
    cond (nat_eq state stop || not (is_asked h.event is_root o)) None
    (first_some (object_rule (scene m depth h f) h.event state o x) m.rules)

abbrev pub global_behind : Target → ℕ → ℕ
global_behind (ToGlobal q) state = q
global_behind _ state = state

abbrev pub object_behind : Target → Option State → Option State
object_behind (ToGlobal q) x = x
object_behind (ToObject v q) x = Some (v, q)
object_behind (ToUnknown v) x = None

-- the global state behind the event
abbrev pub next_global : Machine → ℕ → Happening → Function → Bool → ℕ → ℕ
next_global m depth h f is_root state = if_there (taken_global m depth h f is_root state) state (λ t. global_behind (target_at h.event t.rule.dest) state)

-- the state of an object behind the event
abbrev pub chosen : Machine → ℕ → Happening → Function → Bool → ℕ → Object → Option State → Option State
chosen m depth h f is_root state o x = if_there (taken m depth h f is_root state o x) x (λ t. object_behind (target_at h.event t.rule.dest) x)

-- the state variables of a rule: that of the state from which it goes, or from a global state those of the states to which it leads
abbrev pub led_variables : Dest → List ℕ
led_variables (Always t) = option_to_list (variable_of t)
led_variables (ByTruth on_true on_false) = option_to_list (variable_of on_true) ++ option_to_list (variable_of on_false)

abbrev pub rule_variables : Source → Dest → List ℕ
rule_variables (FromGlobal q) d = led_variables d
rule_variables (FromObject v q) d = v ∷ []

-- AN ALTERNATIVE OF A RULE BINDS THE OBJECT at an event: the rule's state variable has taken it
pub record Binds (m : Machine) (depth : ℕ) (f : Function) (h : Happening) (o : Object) : Type 0 where
  pub rule : Rule
  pub among : Among rule m.rules
  pub items : List Item
  pub alternative : Among items rule.alternatives
  pub binding : Binding
  pub applies : applied (scene m depth h f) h.event rule.dest items ≡ Some binding
  pub variable : ℕ
  pub of_rule : Among variable (rule_variables rule.source rule.dest)
  pub bound : bound_object (scene m depth h f) variable binding ≡ Some o

-- AN ALTERNATIVE OF A RULE MAY GIVE THE OBJECT A STATE, or a report, while it is unknown: the rule binds it, and begins in a global state
pub record Gives (m : Machine) (depth : ℕ) (f : Function) (h : Happening) (o : Object) : Type 0 where
  pub binds : Binds m depth f h o
  pub begins : begins_globally binds.rule.source ≡ true
