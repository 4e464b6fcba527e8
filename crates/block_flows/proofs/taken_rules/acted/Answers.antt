use Rattle.std.proofs.Common.{Option, None, Some, ap, subst, sym, ◌∙◌}
use Rattle.std.specs.Prelude.{IfSome}
use Rattle.state_tuples.specs.AppliedRules.Takers.{IsFirstFor}
use Rattle.block_flows.proofs.Firsts.{kept}
use Rattle.block_flows.specs.Firings.{acting}
use Rattle.c_objects.specs.Objects.{Object}
use Rattle.type_rules.specs.Options.{if_there}
use Rattle.path_model.specs.CheckerModel.Choices.{scene, taken, taken_global}
use Rattle.block_flows.proofs.taken_rules.acted.Goals as goal

pub returns-in-Some-clause-rule : goal.returns-in-Some-clause-rule
returns-in-Some-clause-rule c = λ k h f a.
    let t = c.args.tuple.now in
    let root = c.args.is_root in
    c.acting.ensures.rule ∙ ap acting (c.taken.ensures.taken k.machine k.depth h f a)
    ∙ sym (ap (λ z. if_there z (acting (taken_global k.machine k.depth h f root t.global)) (λ o. acting (taken k.machine k.depth h f root t.global o t.state))) c.in-Some.is)

pub returns-in-None-clause-rule : goal.returns-in-None-clause-rule
returns-in-None-clause-rule c = λ k h f a.
    let t = c.args.tuple.now in
    let root = c.args.is_root in
    c.acting-in-None.ensures.rule ∙ ap acting (c.taken_global.ensures.taken k.machine k.depth h f a)
    ∙ sym (ap (λ z. if_there z (acting (taken_global k.machine k.depth h f root t.global)) (λ o. acting (taken k.machine k.depth h f root t.global o t.state))) c.in-None.is)

pub returns-in-Some-clause-first : goal.returns-in-Some-clause-first
returns-in-Some-clause-first c = λ k h f a.
    let g = scene k.machine k.depth h f in
    subst (λ (o : Option Object). IfSome c.acting.result (λ t. IsFirstFor g h.event o t.now)) (sym c.in-Some.is)
    (kept c.acting.result c.taken.result (IsFirstFor g h.event (Some c.in-Some.object)) c.acting.ensures.same (c.taken.ensures.first k.machine k.depth h f a))

pub returns-in-None-clause-first : goal.returns-in-None-clause-first
returns-in-None-clause-first c = λ k h f a.
    let g = scene k.machine k.depth h f in
    subst (λ (o : Option Object). IfSome c.acting-in-None.result (λ t. IsFirstFor g h.event o t.now)) (sym c.in-None.is)
    (kept c.acting-in-None.result c.taken_global.result (IsFirstFor g h.event None) c.acting-in-None.ensures.same (c.taken_global.ensures.first k.machine k.depth h f a))
