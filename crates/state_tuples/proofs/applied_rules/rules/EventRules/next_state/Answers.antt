use Rattle.std.proofs.Common.{None, Some, ap, ◌∙◌}
use Rattle.state_tuples.proofs.AppliedRules.OfEvents.{object_behind_is}
use Rattle.path_model.specs.CheckerModel.Choices.{object_behind}
use Rattle.state_tuples.specs.RuleChoices.Values.{taken_of}
use Rattle.state_tuples.proofs.applied_rules.rules.EventRules.next_state.Goals as goal

pub returns-in-Some : goal.returns-in-Some
returns-in-Some c = λ m depth h f of.
    c.object_behind.ensures
    ∙ ap (λ z. object_behind z c.args.state) c.target_at.ensures
    ∙ object_behind_is m depth h f c.args.self.now of c.args.is_root c.args.global (Some (taken_of c.in-Some.taken.now)) c.args.object.now c.args.state (c.in-Some.ensures.taken m depth h f of)

pub returns-in-None : goal.returns-in-None
returns-in-None c = λ m depth h f of.
    object_behind_is m depth h f c.args.self.now of c.args.is_root c.args.global None c.args.object.now c.args.state (c.in-None.ensures.taken m depth h f of)
