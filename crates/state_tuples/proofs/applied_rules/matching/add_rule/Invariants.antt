use Rattle.std.proofs.Common.{◌≡◌, ◌++◌, map, take}
use Rattle.std.specs.Prelude.{flat_map}
use Rattle.std.specs.List.{enumerate_from}
use Rattle.state_tuples.specs.AppliedRules.Applied.{applied_alternative}
use Rattle.state_tuples.specs.AppliedRules.Events.{applied_of}
use Rattle.flow_graph.specs.Values.{event_of}
use Rattle.hole_matcher.specs.HoleBindings.Settings.{setting_in}
use Rattle.metal_tree.specs.Views.{items_view, rule_view}
use Rattle.state_tuples.proofs.applied_rules.matching.add_rule.Given as goal

-- those of the alternatives that were passed stand behind what was there
abbrev pub invariant-loop-number : goal.invariant-loop-number
invariant-loop-number l =
    map applied_of l.applied.items
    ≡ map applied_of l.initial.applied.items ++ flat_map (applied_alternative (setting_in l.setting) (event_of l.event) (rule_view l.rule)) (enumerate_from 0 (map items_view (take l.number l.rule.pattern.alternatives.now)))
