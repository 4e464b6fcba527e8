use Rattle.std.proofs.Common.{subst, sym, ◌∙◌, ◌+◌, drop, true}
use Rattle.block_flows.specs.Ends.{IsEnd}
use Rattle.block_flows.specs.IdleEvents.{AreFollowed}
use Rattle.block_flows.proofs.OfEvents.{at-event, none-left}
use Rattle.block_flows.proofs.Standing.{OnWay, way-start, way-next, way-end}
use Rattle.block_flows.proofs.Within.{alone-within, all-within}
use Rattle.least_set.specs.Logs.{IsExactly, IsOnce, SomeGives}
use Rattle.block_flows.proofs.TupleFlows.Lists.{if-ok}
use Rattle.block_flows.specs.TupleFlows.Behind.{IsBehind}
use Rattle.block_flows.proofs.crossing.ends.Goals as goal

pub loop-event-init : goal.loop-event-init
loop-event-init c = λ k f hs a are.
    let followed = c.args.followed.now.keys in
    let t = c.args.tuple.now in (
      subst (λ z. OnWay k f c.args.is_root followed hs hs t z) (sym c.in_ok-now.ensures) (way-start k f c.args.is_root followed hs t),
      λ w. subst (AreFollowed followed) (sym c.in_ok-now.ensures) (alone-within followed t (sym c.is_within-within.ensures ∙ w)),
    )

pub loop-event-preserved-then-leaves_all : goal.loop-event-preserved-then-leaves_all
loop-event-preserved-then-leaves_all c = λ k f hs a are.
    let followed = c.args.followed.now.keys in
    let i = c.loop-event.event-index in
    let e = at-event k.machine k.depth f hs c.args.rules.now i c.event-item.result a c.loop-event-test.true c.event-item.is in
    let now = c.loop-event.now.keys in
    let before = c.loop-event.invariant k f hs a are in
    let left = c.leaves_all.ensures.kept c.if-leaves_all.true k e.0 f c.args.is_root followed now e.2 are before.1 in
    (way-next k f c.args.is_root followed hs e.0 (drop i hs) (drop (i + 1) hs) c.args.tuple.now now now e.1 before.0 left.behind, before.1)

pub loop-event-preserved : goal.loop-event-preserved
loop-event-preserved c = λ k f hs a are.
    let followed = c.args.followed.now.keys in
    let i = c.loop-event.event-index in
    let e = at-event k.machine k.depth f hs c.args.rules.now i c.event-item.result a c.loop-event-test.true c.event-item.is in
    let now = c.loop-event.now.keys in
    let behind = c.in_ok-behind.behind.keys in
    let before = c.loop-event.invariant k f hs a are in
    let exact = subst (λ z. IsExactly behind (SomeGives (IsBehind k e.0 f c.args.is_root followed) z)) c.items-left.ensures.keys (c.in_ok-behind.ensures k e.0 f e.2 are) in (
      way-next k f c.args.is_root followed hs e.0 (drop i hs) (drop (i + 1) hs) c.args.tuple.now now behind e.1 before.0 exact,
      λ w. all-within followed k e.0 f c.args.is_root now behind exact,
    )

pub returns-clause-exact : goal.returns-clause-exact
returns-clause-exact c = if-ok _ _ c.copies.result
    (λ list made k f hs a are.
    let followed = c.args.followed.now.keys in
    let i = c.loop-event.event-index in
    let left = none-left k.machine k.depth f hs c.args.rules.now i a c.loop-event-test.false in
    subst (λ l. IsExactly l (IsEnd k hs f c.args.is_root followed c.args.tuple.now)) (sym (made ∙ c.items-all.ensures.keys))
    (way-end k f c.args.is_root followed hs (drop i hs) c.args.tuple.now c.loop-event.now.keys left (c.loop-event.invariant k f hs a are).0))
    c.copies.ensures

pub returns-clause-once : goal.returns-clause-once
returns-clause-once c = if-ok _ _ c.copies.result (λ list made. subst IsOnce (sym made) c.items-all.ensures.once) c.copies.ensures
