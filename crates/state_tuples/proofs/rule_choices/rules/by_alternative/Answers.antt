use Rattle.std.proofs.Common.{sym}
use Rattle.flow_graph.specs.Values.{event_of}
use Rattle.hole_matcher.specs.HoleBindings.Settings.{setting_in}
use Rattle.metal_tree.specs.Views.{items_view, rule_view}
use Rattle.state_tuples.specs.RuleChoices.Asked.{by_items}
use Rattle.state_tuples.specs.RuleChoices.Values.{asker_of, taken_by}
use Rattle.state_tuples.proofs.RuleChoices.FirstSome.{first_some-next, first_some-here, is_first}
use Rattle.state_tuples.proofs.rule_choices.rules.by_alternative.Goals as goal

pub returns-in-Some-clause-taken : goal.returns-in-Some-clause-taken
returns-in-Some-clause-taken c =
    let f = by_items (setting_in c.args.setting.now) (event_of c.args.event.now) (asker_of c.args.asked) (rule_view c.args.rule.now) in
    sym (first_some-here f items_view c.args.rule.now.pattern.alternatives.now c.loop-number.number _ (taken_by c.args.rule.now c.in-Some.binding) c.loop-number-test.true c.loop-number.invariant (sym c.in-Some.ensures))

pub returns-in-Some-clause-first : goal.returns-in-Some-clause-first
returns-in-Some-clause-first c =
    let f = by_items (setting_in c.args.setting.now) (event_of c.args.event.now) (asker_of c.args.asked) (rule_view c.args.rule.now) in
    is_first f items_view c.args.rule.now.pattern.alternatives.now c.loop-number.number _ (taken_by c.args.rule.now c.in-Some.binding) c.loop-number-test.true c.loop-number.invariant (sym c.in-Some.ensures)

pub loop-number-preserved : goal.loop-number-preserved
loop-number-preserved c =
    let f = by_items (setting_in c.args.setting.now) (event_of c.args.event.now) (asker_of c.args.asked) (rule_view c.args.rule.now) in
    first_some-next f items_view c.args.rule.now.pattern.alternatives.now c.loop-number.number _ c.loop-number-test.true c.loop-number.invariant (sym c.in_default.ensures)
