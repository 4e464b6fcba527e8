use Rattle.std.proofs.Common.{map, [], ap, ◌∙◌}
use Rattle.state_tuples.proofs.AppliedRules.Lists.{given-next, given-all}
use Rattle.state_tuples.specs.AppliedRules.Applied.{applied_rule}
use Rattle.state_tuples.specs.AppliedRules.Events.{applied_of}
use Rattle.flow_graph.specs.Values.{event_of}
use Rattle.hole_matcher.specs.HoleBindings.Settings.{setting_in}
use Rattle.metal_tree.specs.Views.{rule_view}
use Rattle.state_tuples.proofs.applied_rules.matching.applied_at.Goals as goal

pub loop-rule-preserved : goal.loop-rule-preserved
loop-rule-preserved c =
    given-next (applied_rule (setting_in c.args.setting.now) (event_of c.args.event.now)) rule_view c.args.rules.now c.loop-rule.rule-index _ []
    (map applied_of c.loop-rule.applied.items) (map applied_of c.add_rule.new.applied.items) c.loop-rule-test.true c.loop-rule.invariant c.in_ok-add_rule.ensures

pub returns : goal.returns
returns c =
    ap (map applied_of) c.shrink_to_fit.ensures.items
    ∙ given-all (applied_rule (setting_in c.args.setting.now) (event_of c.args.event.now)) rule_view c.args.rules.now c.loop-rule.rule-index [] (map applied_of c.loop-rule.applied.items)
    c.loop-rule-test.false c.loop-rule.invariant
