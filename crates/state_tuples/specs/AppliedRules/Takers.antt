-- WHO TAKES A RULE, by where the rule begins.
use Rattle.std.specs.Prelude.{Option, None, Some}
use Rattle.c_objects.specs.Objects.{Object}
use Rattle.flow_graph.specs.CPaths.Events.{Event}
use Rattle.path_model.specs.CheckerModel.Choices.{State}
use Rattle.hole_matching.specs.Holes.{Setting}
use Rattle.metal_tree.specs.MetalMachines.Machine.{Source, FromGlobal, FromObject, Rule}
use Rattle.metal_tree.specs.Views.{rule_view}
use Rattle.state_tuples.specs.RuleChoices.Asked.{Asker, GlobalState, ObjectIn}
use Rattle.state_tuples.specs.RuleChoices.Firsts.{IsByFirst}
use Rattle.state_tuples.specs.declared.rule_choices.fired.Fired.{Fired}

-- the state of an object from which a rule goes; the object is unknown where the rule goes from a global state
abbrev pub state_from : Source → Option State
state_from (FromGlobal q) = None
state_from (FromObject v q) = Some (v, q)

-- the object in that state; the global state where there is none
abbrev pub taker : Option Object → Rule → Asker
taker None r = GlobalState
taker (Some o) r = ObjectIn o (state_from r.source)

-- IT TAKES THE RULE BY THE FIRST of its alternatives by which it can
abbrev pub IsFirstFor : Setting → Event → Option Object → Fired → Type 0
IsFirstFor g e o f = IsByFirst g e (taker o (rule_view f.rule.now)) f
