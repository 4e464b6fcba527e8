use Rattle.std.proofs.Common.{◌∙◌, ◌+◌, sym, subst, ap, map, take, []}
use Rattle.std.proofs.lemmas.List.{map-append}
use Rattle.std.proofs.lemmas.List.Elements.{All-nil, All-append, All-same}
use Rattle.block_flows.specs.Firings.{fire_in, TakenHere, IsFirstHere}
use Rattle.block_flows.proofs.Fires.{exactly-joined}
use Rattle.least_set.specs.Logs.{IsExactly, SomeGives}
use Rattle.least_set.proofs.Enumerating.{exactly_none}
use Rattle.least_set.proofs.Growing.{all_of}
use Rattle.block_flows.proofs.taken_rules.fired_here.Goals as goal

pub loop-tuple-init : goal.loop-tuple-init
loop-tuple-init c = (
  λ k h f a are.
      let G = TakenHere k h f c.args.is_root c.args.followed.now.keys c.args.number in
      subst (λ l. IsExactly (map fire_in l) (SomeGives G [])) (sym c.new-list.ensures.items) (exactly_none G),
  λ k h f a. let P = IsFirstHere k h f c.args.number in All-same P _ [] c.new-list.ensures.items (All-nil P),
)

pub loop-tuple-preserved : goal.loop-tuple-preserved
loop-tuple-preserved c = (
  λ k h f a are.
      let G = TakenHere k h f c.args.is_root c.args.followed.now.keys c.args.number in
      let xs = c.args.tuples.now in
      let i = c.loop-tuple.tuple-index in
      let old = c.loop-tuple.list.items in
      let more = c.in_ok-more.more.items in
      subst (λ l. IsExactly l (SomeGives G (take (i + 1) xs))) (sym (ap (map fire_in) c.in_ok-append.ensures.items ∙ map-append fire_in old more))
      (exactly-joined G xs i c.tuple-item.result (map fire_in old) (map fire_in more) c.loop-tuple-test.true c.tuple-item.is (c.loop-tuple.invariant.0 k h f a are) (c.in_ok-more.ensures.rules k h f a are)),
  λ k h f a.
      let P = IsFirstHere k h f c.args.number in
      All-same P _ _ c.in_ok-append.ensures.items (All-append P c.loop-tuple.list.items c.in_ok-more.more.items (c.loop-tuple.invariant.1 k h f a) (c.in_ok-more.ensures.first k h f a)),
)

pub returns-clause-rules : goal.returns-clause-rules
returns-clause-rules c = λ k h f a are.
    let G = TakenHere k h f c.args.is_root c.args.followed.now.keys c.args.number in
    all_of (λ l. IsExactly (map fire_in c.loop-tuple.list.items) (SomeGives G l)) c.args.tuples.now c.loop-tuple.tuple-index c.loop-tuple-test.false c.loop-tuple.auto.tuple-index-end
    (c.loop-tuple.invariant.0 k h f a are)

pub returns-clause-first : goal.returns-clause-first
returns-clause-first c = c.loop-tuple.invariant.1
