use Rattle.std.proofs.Common.{◌≡◌, map, take, None}
use Rattle.path_model.specs.CheckerModel.Choices.{first_some}
use Rattle.flow_graph.specs.Values.{event_of}
use Rattle.hole_matcher.specs.HoleBindings.Settings.{setting_in}
use Rattle.metal_tree.specs.Views.{rule_view}
use Rattle.state_tuples.specs.RuleChoices.Asked.{asked_rule}
use Rattle.state_tuples.specs.RuleChoices.Values.{asker_of}
use Rattle.state_tuples.proofs.rule_choices.rules.first_rule.Given as goal

-- none of the rules that were passed is taken
abbrev pub invariant-loop-rule : goal.invariant-loop-rule
invariant-loop-rule l = first_some (asked_rule (setting_in l.setting) (event_of l.event) l.global (asker_of l.asked)) (map rule_view (take l.rule-index l.rules)) ≡ None
