use Rattle.std.proofs.Common.{map}
use Rattle.state_tuples.proofs.AppliedRules.Lists.{numbered-next, numbered-all}
use Rattle.state_tuples.specs.AppliedRules.Applied.{applied_alternative}
use Rattle.state_tuples.specs.AppliedRules.Events.{applied_of}
use Rattle.flow_graph.specs.Values.{event_of}
use Rattle.hole_matcher.specs.HoleBindings.Settings.{setting_in}
use Rattle.metal_tree.specs.Views.{items_view, rule_view}
use Rattle.state_tuples.proofs.applied_rules.matching.add_rule.Goals as goal

pub loop-number-preserved : goal.loop-number-preserved
loop-number-preserved c =
    let f = applied_alternative (setting_in c.args.setting.now) (event_of c.args.event.now) (rule_view c.args.rule.now) in
    numbered-next f items_view c.args.rule.now.pattern.alternatives.now c.loop-number.number _ (map applied_of c.args.applied.now.items) (map applied_of c.loop-number.applied.items)
    (map applied_of c.add_alternative.new.applied.items) c.loop-number-test.true c.loop-number.invariant c.in_ok-add_alternative.ensures

pub returns : goal.returns
returns c =
    let f = applied_alternative (setting_in c.args.setting.now) (event_of c.args.event.now) (rule_view c.args.rule.now) in
    numbered-all f items_view c.args.rule.now.pattern.alternatives.now c.loop-number.number (map applied_of c.args.applied.now.items) (map applied_of c.loop-number.applied.items)
    c.loop-number-test.false c.loop-number.invariant
