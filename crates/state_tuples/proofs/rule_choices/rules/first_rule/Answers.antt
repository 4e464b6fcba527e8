use Rattle.std.proofs.Common.{sym}
use Rattle.flow_graph.specs.Values.{event_of}
use Rattle.hole_matcher.specs.HoleBindings.Settings.{setting_in}
use Rattle.metal_tree.specs.Views.{rule_view}
use Rattle.state_tuples.specs.RuleChoices.Asked.{asked_rule}
use Rattle.state_tuples.specs.RuleChoices.Values.{asker_of, taken_of}
use Rattle.state_tuples.proofs.RuleChoices.FirstSome.{first_some-next, first_some-here}
use Rattle.state_tuples.proofs.rule_choices.rules.first_rule.Goals as goal

pub returns-in-Some-clause-taken : goal.returns-in-Some-clause-taken
returns-in-Some-clause-taken c =
    let f = asked_rule (setting_in c.args.setting.now) (event_of c.args.event.now) c.args.global (asker_of c.args.asked) in
    sym (first_some-here f rule_view c.args.rules.now c.loop-rule.rule-index _ (taken_of c.in-Some.fired) c.loop-rule-test.true c.loop-rule.invariant (sym c.in-Some.ensures.taken))

pub loop-rule-preserved : goal.loop-rule-preserved
loop-rule-preserved c =
    let f = asked_rule (setting_in c.args.setting.now) (event_of c.args.event.now) c.args.global (asker_of c.args.asked) in
    first_some-next f rule_view c.args.rules.now c.loop-rule.rule-index _ c.loop-rule-test.true c.loop-rule.invariant (sym c.in_default.ensures.taken)
