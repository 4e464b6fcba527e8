use Rattle.std.proofs.Common.{◌∙◌, Some}
use Rattle.state_tuples.proofs.AppliedRules.OfEvents.{object_is, object_by_first, picked_rule, picked_first}
use Rattle.state_tuples.specs.AppliedRules.Takers.{IsFirstFor}
use Rattle.path_model.specs.CheckerModel.Choices.{scene}
use Rattle.state_tuples.specs.RuleChoices.Values.{asker_of}
use Rattle.state_tuples.proofs.applied_rules.rules.EventRules.taken.Goals as goal

pub returns-clause-taken : goal.returns-clause-taken
returns-clause-taken c = λ m depth h f of.
    picked_rule _ _ c.first_taken.ensures
    ∙ object_is m depth h f c.args.self.now of c.args.is_root c.is_asked-asked.result c.args.global (asker_of c.asked_object.result) c.args.object.now c.args.state
    c.is_asked-asked.ensures c.asked_object.ensures

pub returns-clause-first : goal.returns-clause-first
returns-clause-first c = λ m depth h f of.
    picked_first _ _ (IsFirstFor (scene m depth h f) h.event (Some c.args.object.now)) c.first_taken.ensures
    (λ x e. object_by_first m depth h f c.args.self.now of c.is_asked-asked.result c.args.global (asker_of c.asked_object.result) c.args.object.now c.args.state x
    c.asked_object.ensures e)
