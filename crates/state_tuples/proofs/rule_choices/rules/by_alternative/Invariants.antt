use Rattle.std.proofs.Common.{◌≡◌, map, take, None}
use Rattle.path_model.specs.CheckerModel.Choices.{first_some}
use Rattle.flow_graph.specs.Values.{event_of}
use Rattle.hole_matcher.specs.HoleBindings.Settings.{setting_in}
use Rattle.metal_tree.specs.Views.{items_view, rule_view}
use Rattle.state_tuples.specs.RuleChoices.Asked.{by_items}
use Rattle.state_tuples.specs.RuleChoices.Values.{asker_of}
use Rattle.state_tuples.proofs.rule_choices.rules.by_alternative.Given as goal

-- the rule isn't taken by any alternative that was passed
abbrev pub invariant-loop-number : goal.invariant-loop-number
invariant-loop-number l = first_some (by_items (setting_in l.setting) (event_of l.event) (asker_of l.asked) (rule_view l.rule)) (map items_view (take l.number l.rule.pattern.alternatives.now)) ≡ None
