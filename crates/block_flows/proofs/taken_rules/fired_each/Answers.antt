use Rattle.std.proofs.Common.{◌≡◌, ◌∙◌, refl, sym, subst, ap, map, [], Option, Some}
use Rattle.std.proofs.lemmas.List.Elements.{All-nil, All-push, All-same}
use Rattle.std.specs.List.{filter_map}
use Rattle.std.specs.Option.{option_map}
use Rattle.state_tuples.specs.AppliedRules.Takers.{IsFirstFor}
use Rattle.block_flows.specs.Firings.{fire_of, fire_in, IsFirstHere}
use Rattle.block_flows.proofs.Fires.{fire, gave, gave-none}
use Rattle.c_objects.specs.Objects.{Object}
use Rattle.path_model.specs.CheckerModel.Choices.{scene}
use Rattle.least_set.proofs.Growing.{all_of}
use Rattle.state_tuples.specs.RuleChoices.Values.{taken_of}
use Rattle.block_flows.proofs.taken_rules.fired_each.Goals as goal

pub loop-tuple-init : goal.loop-tuple-init
loop-tuple-init c = λ k h f a.
    let P = IsFirstHere k h f c.args.number in
    (ap (map fire_in) c.new-list.ensures.items, All-same P _ [] c.new-list.ensures.items (All-nil P))

pub loop-tuple-preserved-in_default : goal.loop-tuple-preserved-in_default
loop-tuple-preserved-in_default c = λ k h f a.
    let x = c.tuple-item.result in
    let before = c.loop-tuple.invariant k h f a in
    let same = gave-none fire_in (fire_of k h f c.args.is_root c.args.number) c.args.tuples.now c.loop-tuple.tuple-index x c.loop-tuple.list.items c.loop-tuple-test.true c.tuple-item.is
    before.0 (ap (option_map (fire c.args.number x.object)) (sym (c.in_default.ensures.rule k h f a))) in
    (same, before.1)

pub loop-tuple-preserved : goal.loop-tuple-preserved
loop-tuple-preserved c = λ k h f a.
    let P = IsFirstHere k h f c.args.number in
    let x = c.tuple-item.result in
    let before = c.loop-tuple.invariant k h f a in
    let same = gave fire_in (fire_of k h f c.args.is_root c.args.number) c.args.tuples.now c.loop-tuple.tuple-index x c.loop-tuple.list.items c.loop-tuple-test.true c.tuple-item.is
    before.0 c.push.new.self.items _ c.in_ok-push.ensures.items
    (ap (option_map (fire c.args.number x.object)) (sym (c.in-Some.ensures.rule k h f a)) ∙ ap (λ o. Some (fire c.args.number o (taken_of c.in-Some.taken.now))) (sym c.copy_object.ensures)) in
    let first = subst (λ (o : Option Object). IsFirstFor (scene k.machine k.depth h f) h.event o c.in-Some.taken.now) (sym c.copy_object.ensures) (c.in-Some.ensures.first k h f a) in
    (same, All-same P c.push.new.self.items _ c.in_ok-push.ensures.items (All-push P c.loop-tuple.list.items _ before.1 (refl, first)))

pub returns-clause-rules : goal.returns-clause-rules
returns-clause-rules c = λ k h f a. all_of (λ l. map fire_in c.loop-tuple.list.items ≡ filter_map (fire_of k h f c.args.is_root c.args.number) l) c.args.tuples.now
    c.loop-tuple.tuple-index c.loop-tuple-test.false c.loop-tuple.auto.tuple-index-end (c.loop-tuple.invariant k h f a).0

pub returns-clause-first : goal.returns-clause-first
returns-clause-first c = λ k h f a. (c.loop-tuple.invariant k h f a).1
