use Rattle.std.proofs.Common.{None, Some, ap, ◌∙◌}
use Rattle.state_tuples.proofs.AppliedRules.OfEvents.{global_behind_is}
use Rattle.path_model.specs.CheckerModel.Choices.{global_behind}
use Rattle.state_tuples.specs.RuleChoices.Values.{taken_of}
use Rattle.state_tuples.proofs.applied_rules.rules.EventRules.next_global.Goals as goal

pub returns-in-Some : goal.returns-in-Some
returns-in-Some c = λ m depth h f of.
    c.global_behind.ensures
    ∙ ap (λ z. global_behind z c.args.global) c.target_at.ensures
    ∙ global_behind_is m depth h f c.args.self.now of c.args.is_root c.args.global (Some (taken_of c.in-Some.taken.now)) (c.in-Some.ensures.taken m depth h f of)

pub returns-in-None : goal.returns-in-None
returns-in-None c = λ m depth h f of. global_behind_is m depth h f c.args.self.now of c.args.is_root c.args.global None (c.in-None.ensures.taken m depth h f of)
