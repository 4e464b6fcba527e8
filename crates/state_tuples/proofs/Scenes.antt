-- What is found under a setting, and of who is asked, is what the definitions find.
use Rattle.std.proofs.Common.{◌≡◌, ℕ, Bool, false, cond, List, Option, None, sym, ap, subst, ◌∙◌}
use Rattle.std.specs.Prelude.{IfSome}
use Rattle.c_objects.specs.Objects.{Object}
use Rattle.flow_graph.specs.CPaths.Events.{Event}
use Rattle.path_model.specs.CheckerModel.Choices.{State, Taken, first_some, global_rule, object_rule}
use Rattle.hole_matching.specs.Holes.{Setting}
use Rattle.metal_tree.specs.MetalMachines.Machine.{Rule}
use Rattle.state_tuples.specs.RuleChoices.Asked.{Asker, GlobalState, ObjectIn, asked_rule}
use Rattle.state_tuples.specs.declared.rule_choices.fired.Fired.{Fired}
use Rattle.state_tuples.specs.RuleChoices.Firsts.{IsByFirst}

pub same_first : (g h : Setting) (e : Event) (a b : Asker) (o : Option Fired) → g ≡ h → a ≡ b → IfSome o (IsByFirst g e a) → IfSome o (IsByFirst h e b)
same_first g h e a b o p q k =
    let at_setting = subst (λ (z : Setting). IfSome o (IsByFirst z e a)) p k in
    subst (λ (z : Asker). IfSome o (IsByFirst h e z)) q at_setting

pub object_taken : (g h : Setting) (e : Event) (state : ℕ) (a : Asker) (o : Object) (x : Option State) (rs : List Rule) (t : Option Taken) (b : Bool)
    → t ≡ first_some (asked_rule g e state a) rs → g ≡ h → a ≡ ObjectIn o x → b ≡ false → t ≡ cond b None (first_some (object_rule h e state o x) rs)
object_taken g h e state a o x rs t b k p q none =
    k
    ∙ ap (λ z. first_some (asked_rule z e state a) rs) p
    ∙ ap (λ z. first_some (asked_rule h e state z) rs) q
    ∙ sym (ap (λ z. cond z None (first_some (object_rule h e state o x) rs)) none)

pub global_taken : (g h : Setting) (e : Event) (state : ℕ) (rs : List Rule) (t : Option Taken) (b : Bool)
    → t ≡ first_some (asked_rule g e state GlobalState) rs → g ≡ h → b ≡ false → t ≡ cond b None (first_some (global_rule h e state) rs)
global_taken g h e state rs t b k p none =
    k
    ∙ ap (λ z. first_some (asked_rule z e state GlobalState) rs) p
    ∙ sym (ap (λ z. cond z None (first_some (global_rule h e state) rs)) none)
