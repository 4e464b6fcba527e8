-- THE STATES TO WHICH RULES LEAD AT AN EVENT are among those that they name.
use Rattle.std.proofs.Common.{◌≡◌, ◌∙◌, ◌⊎◌, inl, inr, refl, sym, ap, subst, ℕ, Bool, true, false, List, [], ◌∷◌, ◌++◌, Contains, Option, None, Some, option_map, option_to_list}
use Rattle.std.specs.List.{enumerate_from}
use Rattle.std.proofs.lemmas.List.Elements.{Contains-append_left, Contains-append_right}
use Rattle.block_flows.proofs.TupleFlows.Lists.{contains-first}
use Rattle.flow_graph.specs.CPaths.Events.{Event, Evaluated, Declared, Branched, Exited}
use Rattle.hole_matching.specs.Holes.{Setting}
use Rattle.hole_matching.specs.Matching.{Binding}
use Rattle.least_set.proofs.Growing.{nothing}
use Rattle.metal_tree.specs.MetalMachines.Machine.{Target, ToObject, Dest, Always, ByTruth, Item, Rule}
use Rattle.numbered_program.specs.NumberedTuples.ObjectStates.{state_of_source, state_of_target, states_of_dest, states_of_rule, states_of_rules}
use Rattle.path_model.specs.CheckerModel.Choices.{State, applied, target_at}
use Rattle.row_flows.proofs.Lists.{the_one}
use Rattle.state_tuples.proofs.AppliedRules.Lists.{given-stands, stands-given}
use Rattle.state_tuples.specs.AppliedRules.Applied.{Applied, applied_alternative, applied_at, applied_rule, taken_with, with_number}

-- ---- the rule of an alternative that applies

made_of : (r : Rule) (n : ℕ) (b : Option Binding) (x : Applied) → Contains (option_to_list (option_map (λ z. with_number n (taken_with r z)) b)) x → r ≡ x.taken.rule
made_of r n None x h = absurd (nothing x h)
made_of r n (Some b) x h = ap (λ (y : Applied). y.taken.rule) (the_one (with_number n (taken_with r b)) x h)

-- it is one of the rules
pub rule_among : (s : Setting) (e : Event) (rules : List Rule) (x : Applied) → Contains (applied_at s e rules) x → Contains rules x.taken.rule
rule_among s e rules x h =
    let r = stands-given (applied_rule s e) rules x h in
    let i = stands-given (applied_alternative s e r.0) (enumerate_from 0 r.0.alternatives) x r.2 in
    subst (λ (y : Rule). Contains rules y) (made_of r.0 i.0.0 (applied s e r.0.dest i.0.1) x i.2) r.1

-- ---- the state of its target

one_target : (e : Event) (t : Target) → target_at e (Always t) ≡ t
one_target (Evaluated s) t = refl
one_target (Declared v) t = refl
one_target (Branched n truth) t = refl
one_target (Exited function place) t = refl

of_two : (e : Event) (a b : Target) → (target_at e (ByTruth a b) ≡ a) ⊎ (target_at e (ByTruth a b) ≡ b)
of_two (Evaluated s) a b = inl refl
of_two (Declared v) a b = inl refl
of_two (Branched n true) a b = inl refl
of_two (Branched n false) a b = inr refl
of_two (Exited function place) a b = inl refl

to_state : (t : Target) (v q : ℕ) → t ≡ ToObject v q → Contains (state_of_target t) (v, q)
to_state t v q e = subst (λ z. Contains (state_of_target z) (v, q)) (sym e) (contains-first {A = State} (v, q) [])

dest_names : (e : Event) (d : Dest) (v q : ℕ) → target_at e d ≡ ToObject v q → Contains (states_of_dest d) (v, q)
dest_names e (Always t) v q h = to_state t v q (sym (one_target e t) ∙ h)
dest_names e (ByTruth a b) v q h = elim (of_two e a b) [
  | inl k ↦ Contains-append_left (state_of_target a) (state_of_target b) (v, q) (to_state a v q (sym k ∙ h))
  | inr k ↦ Contains-append_right (state_of_target a) (state_of_target b) (v, q) (to_state b v q (sym k ∙ h))
]

rule_names : (e : Event) (r : Rule) (v q : ℕ) → target_at e r.dest ≡ ToObject v q → Contains (states_of_rule r) (v, q)
rule_names e r v q h = Contains-append_right (state_of_source r.source) (states_of_dest r.dest) (v, q) (dest_names e r.dest v q h)

-- of an alternative that applies
pub target_named : (s : Setting) (e : Event) (rules : List Rule) (x : Applied) → Contains (applied_at s e rules) x → (v q : ℕ) → target_at e x.taken.rule.dest ≡ ToObject v q
    → Contains (states_of_rules rules) (v, q)
target_named s e rules x h v q k = given-stands states_of_rule rules x.taken.rule (v, q) (rule_among s e rules x h) (rule_names e x.taken.rule v q k)
