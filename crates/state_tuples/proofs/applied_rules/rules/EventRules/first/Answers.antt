use Rattle.std.proofs.Common.{map, cond, None, Some, sym, ap, ◌∙◌}
use Rattle.state_tuples.specs.AppliedRules.Events.{applied_of}
use Rattle.state_tuples.specs.Ways.Firsts.{picked}
use Rattle.path_model.specs.CheckerModel.Choices.{first_some}
use Rattle.flow_graph.specs.Values.{event_of}
use Rattle.hole_matcher.specs.HoleBindings.Settings.{setting_in}
use Rattle.state_tuples.proofs.RuleChoices.FirstSome.{first_some-next, first_some-here}
use Rattle.state_tuples.specs.RuleChoices.Values.{asker_of}
use Rattle.state_tuples.proofs.applied_rules.rules.EventRules.first.Goals as goal

pub returns-then-takes : goal.returns-then-takes
returns-then-takes c =
    let f = picked (setting_in c.args.self.now.setting) (event_of c.args.self.now.event) c.args.global (asker_of c.args.asked) in
    let it = applied_of c.fired-item.result in
    let is = ap (λ z. f (applied_of z)) (sym c.fired-item.is) ∙ ap (λ z. cond z (Some it) None) (sym c.takes.ensures ∙ c.if-takes.true) in
    sym (ap (λ z. first_some f (map applied_of z)) (sym c.as_slice-fired-items.ensures.value)
    ∙ first_some-here f applied_of c.as_slice-fired-items.result.now c.loop-fired.fired-index c.fired-item.result it c.loop-fired-test.true c.loop-fired.invariant is)

pub loop-fired-preserved : goal.loop-fired-preserved
loop-fired-preserved c =
    let f = picked (setting_in c.args.self.now.setting) (event_of c.args.self.now.event) c.args.global (asker_of c.args.asked) in
    let it = applied_of c.fired-item.result in
    let is = ap (λ z. f (applied_of z)) (sym c.fired-item.is) ∙ ap (λ z. cond z (Some it) None) (sym c.takes.ensures ∙ c.if-takes.false) in
    first_some-next f applied_of c.as_slice-fired-items.result.now c.loop-fired.fired-index c.fired-item.result c.loop-fired-test.true c.loop-fired.invariant is
