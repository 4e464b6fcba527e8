use Rattle.flow_graph.specs.Values.{event_of}
use Rattle.hole_matcher.specs.HoleBindings.Settings.{setting_in}
use Rattle.state_tuples.specs.RuleChoices.Values.{asker_of}
use Rattle.state_tuples.proofs.Numbered.{all_numbered}
use Rattle.state_tuples.proofs.choices.fired.Goals as goal

pub returns-clause-rule : goal.returns-clause-rule
returns-clause-rule c = all_numbered c.args.machine.now (setting_in c.new-setting.result) (event_of c.args.event.now) c.args.global (asker_of c.asked_object-asked.result) c.first_rule.result c.args.machine.now.kept.limits.numbers c.first_rule.ensures.taken
