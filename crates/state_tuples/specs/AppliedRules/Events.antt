-- What the rules of an event, as a value of the program, stand for.
use Rattle.std.specs.Prelude.{◌≡◌, ℕ, map}
use Rattle.state_tuples.specs.AppliedRules.Applied.{Applied, applied_at}
use Rattle.state_tuples.specs.declared.applied_rules.rules.EventRules.{EventRules}
use Rattle.path_model.specs.CheckerModel.Choices.{scene}
use Rattle.path_model.specs.CheckerModel.Happenings.{Function, Happening}
use Rattle.flow_graph.specs.Values.{event_of}
use Rattle.hole_matcher.specs.HoleBindings.Settings.{setting_in}
use Rattle.metal_tree.specs.MetalMachines.Machine.{Machine}
use Rattle.state_tuples.specs.declared.rule_choices.fired.Fired.{Fired}
use Rattle.state_tuples.specs.RuleChoices.Values.{taken_of}

abbrev pub applied_of : Fired → Applied
applied_of f = record { number = f.alternative; taken = taken_of f }

-- they are those of this event in this function, where objects have this depth
pub record AreOfEvent (m : Machine) (depth : ℕ) (h : Happening) (f : Function) (r : EventRules) : Type 0 where
  pub setting : setting_in r.setting ≡ scene m depth h f
  pub event : event_of r.event ≡ h.event
  pub applied : map applied_of r.applied.items ≡ applied_at (scene m depth h f) h.event m.rules
