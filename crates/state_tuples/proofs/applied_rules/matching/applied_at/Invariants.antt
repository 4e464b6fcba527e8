use Rattle.std.proofs.Common.{◌≡◌, map, take}
use Rattle.state_tuples.specs.AppliedRules.Applied.{applied_at}
use Rattle.state_tuples.specs.AppliedRules.Events.{applied_of}
use Rattle.flow_graph.specs.Values.{event_of}
use Rattle.hole_matcher.specs.HoleBindings.Settings.{setting_in}
use Rattle.metal_tree.specs.Views.{rule_view}
use Rattle.state_tuples.proofs.applied_rules.matching.applied_at.Given as goal

-- those of the rules that were passed
abbrev pub invariant-loop-rule : goal.invariant-loop-rule
invariant-loop-rule l = map applied_of l.applied.items ≡ applied_at (setting_in l.setting) (event_of l.event) (map rule_view (take l.rule-index l.rules))
