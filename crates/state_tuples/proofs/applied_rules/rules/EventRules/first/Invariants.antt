use Rattle.std.proofs.Common.{◌≡◌, map, take, None}
use Rattle.state_tuples.specs.AppliedRules.Events.{applied_of}
use Rattle.state_tuples.specs.Ways.Firsts.{picked}
use Rattle.path_model.specs.CheckerModel.Choices.{first_some}
use Rattle.flow_graph.specs.Values.{event_of}
use Rattle.hole_matcher.specs.HoleBindings.Settings.{setting_in}
use Rattle.state_tuples.specs.RuleChoices.Values.{asker_of}
use Rattle.state_tuples.proofs.applied_rules.rules.EventRules.first.Given as goal

-- none of those that were passed is taken
abbrev pub invariant-loop-fired : goal.invariant-loop-fired
invariant-loop-fired l = first_some (picked (setting_in l.self.setting) (event_of l.self.event) l.global (asker_of l.asked)) (map applied_of (take l.fired-index l.fired-items)) ≡ None
