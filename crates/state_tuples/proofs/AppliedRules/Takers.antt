-- Who takes a rule is told by where the rule begins.
use Rattle.std.proofs.Common.{◌≡◌, ℕ, nat_eq, true, not, Option, None, Some, refl, sym, ap}
use Rattle.std.proofs.lemmas.Bool.{eqb-true}
use Rattle.state_tuples.specs.AppliedRules.Takers.{state_from, taker}
use Rattle.c_objects.specs.Objects.{Object}
use Rattle.flow_graph.specs.CPaths.Events.{Event}
use Rattle.path_model.specs.CheckerModel.Choices.{State, from_global, from_object, target_at, leads_to_global}
use Rattle.hole_matching.proofs.Heads.{and-left, and-right}
use Rattle.metal_tree.specs.MetalMachines.Machine.{Source, FromGlobal, FromObject, Rule}
use Rattle.state_tuples.specs.RuleChoices.Asked.{ObjectIn, may_take}

nowhere : (state : ℕ) (s : Source) → from_global state s ≡ true → state_from s ≡ None
nowhere state (FromGlobal q) h = refl
nowhere state (FromObject v q) h = cc

from-there : (x : State) (s : Source) → from_object x s ≡ true → state_from s ≡ Some x
from-there x (FromGlobal q) h = cc
from-there x (FromObject v q) h =
    let variable : v ≡ x.0 = eqb-true v x.0 (and-left (nat_eq v x.0) (nat_eq q x.1) h) in
    let state : q ≡ x.1 = eqb-true q x.1 (and-right (nat_eq v x.0) (nat_eq q x.1) h) in
    λ i. Some (variable i, state i)

-- an object that may take a rule takes it from the state in which the rule begins
pub object-takes : (e : Event) (state : ℕ) (o : Object) (x : Option State) (r : Rule) → may_take e state (ObjectIn o x) r ≡ true → ObjectIn o x ≡ taker (Some o) r
object-takes e state o None r h =
    let begins = and-left (from_global state r.source) (not (leads_to_global (target_at e r.dest))) h in
    ap (ObjectIn o) (sym (nowhere state r.source begins))
object-takes e state o (Some x) r h = ap (ObjectIn o) (sym (from-there x r.source h))
