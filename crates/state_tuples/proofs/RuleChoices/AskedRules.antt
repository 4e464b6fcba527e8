-- A rule that begins and leads where it has to, or not.
use Rattle.std.proofs.Common.{◌≡◌, ℕ, Bool, true, false, cond, Option, None, Some, refl, sym, ap, ◌∙◌, ◌&&◌, not}
use Rattle.c_objects.specs.Objects.{Object}
use Rattle.flow_graph.specs.CPaths.Events.{Event}
use Rattle.type_rules.specs.Options.{if_there, ◌>?◌}
use Rattle.path_model.specs.CheckerModel.Choices.{Taken, by_alternative, target_at, from_global, leads_to_global, variable_of, binds}
use Rattle.hole_matching.specs.Holes.{Setting}
use Rattle.metal_tree.specs.MetalMachines.Machine.{Target, ToGlobal, ToObject, ToUnknown, Rule}
use Rattle.state_tuples.specs.RuleChoices.Asked.{Asker, GlobalState, ObjectIn, asked_rule, may_take, fits}

-- an unknown object, by the rule's target
unknown : (g : Setting) (e : Event) (r : Rule) (o : Object) (b : Bool) (t : Target)
    → cond (b && not (leads_to_global t)) (by_alternative g e r (λ z. if_there (variable_of t) false (λ v. binds g v o z))) None
    ≡ cond b (variable_of t >? λ v. by_alternative g e r (binds g v o)) None
unknown g e r o true (ToGlobal q) = refl
unknown g e r o true (ToObject v q) = refl
unknown g e r o true (ToUnknown v) = refl
unknown g e r o false t = refl

pub asked : (g : Setting) (e : Event) (state : ℕ) (a : Asker) (r : Rule) → cond (may_take e state a r) (by_alternative g e r (fits g e a r)) None ≡ asked_rule g e state a r
asked g e state GlobalState r = refl
asked g e state (ObjectIn o None) r = unknown g e r o (from_global state r.source) (target_at e r.dest)
asked g e state (ObjectIn o (Some x)) r = refl

pub is_taken : (g : Setting) (e : Event) (state : ℕ) (a : Asker) (r : Rule) (may : Bool) (t : Option Taken) → may ≡ may_take e state a r → may ≡ true
    → t ≡ by_alternative g e r (fits g e a r) → t ≡ asked_rule g e state a r
is_taken g e state a r may t is m h = h ∙ ap (λ b. cond b (by_alternative g e r (fits g e a r)) None) (sym m ∙ is) ∙ asked g e state a r

pub is_not_taken : (g : Setting) (e : Event) (state : ℕ) (a : Asker) (r : Rule) (may : Bool) → may ≡ may_take e state a r → may ≡ false → None ≡ asked_rule g e state a r
is_not_taken g e state a r may is m = ap (λ b. cond b (by_alternative g e r (fits g e a r)) None) (sym m ∙ is) ∙ asked g e state a r
