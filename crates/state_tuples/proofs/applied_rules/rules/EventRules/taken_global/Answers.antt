use Rattle.std.proofs.Common.{◌∙◌, None}
use Rattle.state_tuples.proofs.AppliedRules.OfEvents.{global_is, global_by_first, picked_rule, picked_first}
use Rattle.state_tuples.specs.AppliedRules.Takers.{IsFirstFor}
use Rattle.path_model.specs.CheckerModel.Choices.{scene}
use Rattle.state_tuples.proofs.applied_rules.rules.EventRules.taken_global.Goals as goal

pub returns-clause-taken : goal.returns-clause-taken
returns-clause-taken c = λ m depth h f of.
    picked_rule _ _ c.first_taken.ensures ∙ global_is m depth h f c.args.self.now of c.args.is_root c.is_global_asked-asked.result c.args.global c.is_global_asked-asked.ensures

pub returns-clause-first : goal.returns-clause-first
returns-clause-first c = λ m depth h f of.
    picked_first _ _ (IsFirstFor (scene m depth h f) h.event None) c.first_taken.ensures
    (λ x e. global_by_first m depth h f c.args.self.now of c.is_global_asked-asked.result c.args.global x e)
