-- WHO IS ASKED whether it takes a rule: the global state, or an object. Which rules it may take by where they begin and lead, and which
-- bindings fit.
use Rattle.std.specs.Prelude.{ℕ, List, Bool, true, false, cond, not, ◌&&◌, ◌||◌, Option, None, Some}
use Rattle.c_objects.specs.Objects.{Object}
use Rattle.flow_graph.specs.CPaths.Events.{Event}
use Rattle.type_rules.specs.Options.{if_there, ◌>?◌}
use Rattle.path_model.specs.CheckerModel.Choices.{State, Taken, applied, is_exit, target_at, from_global, from_object, leads_to_global, variable_of, binds, global_rule, object_rule}
use Rattle.hole_matching.specs.Holes.{Setting}
use Rattle.hole_matching.specs.Matching.{Binding}
use Rattle.metal_tree.specs.MetalMachines.Machine.{Item, Rule}

-- an object with its state, if that is known
pub data Asker : Type 0 where
  GlobalState : Asker
  ObjectIn : Object → Option State → Asker

-- the rule that it takes, if it takes this one
abbrev pub asked_rule : Setting → Event → ℕ → Asker → Rule → Option Taken
asked_rule g e state GlobalState = global_rule g e state
asked_rule g e state (ObjectIn o x) = object_rule g e state o x

-- where the rule begins and leads is right, whatever matches
abbrev pub may_take : Event → ℕ → Asker → Rule → Bool
may_take e state GlobalState r = from_global state r.source && leads_to_global (target_at e r.dest)
may_take e state (ObjectIn o None) r = from_global state r.source && not (leads_to_global (target_at e r.dest))
may_take e state (ObjectIn o (Some x)) r = from_object x r.source

-- it takes the rule with this binding
abbrev pub fits : Setting → Event → Asker → Rule → Binding → Bool
fits g e GlobalState r b = true
fits g e (ObjectIn o None) r b = if_there (variable_of (target_at e r.dest)) false (λ v. binds g v o b)
fits g e (ObjectIn o (Some x)) r b = is_exit e || binds g x.0 o b

-- the rule as it is taken by one of its alternatives
abbrev pub by_items : Setting → Event → Asker → Rule → List Item → Option Taken
by_items g e a r items = applied g e r.dest items >? λ b. cond (fits g e a r b) (Some (record { rule = r; binding = b })) None
