use Rattle.std.proofs.Common.{◌∙◌, ◌+◌, sym, subst, ap, map, drop, [], append-nil}
use Rattle.std.proofs.lemmas.List.{map-append}
use Rattle.std.proofs.lemmas.List.Elements.{All-nil, All-append, All-same}
use Rattle.block_flows.specs.Firings.{fire_in, TakenHere, IsFirstAmong}
use Rattle.block_flows.proofs.Fires.{IsNoted, notes-start, notes-next, notes-end}
use Rattle.block_flows.proofs.Firsts.{among}
use Rattle.block_flows.proofs.OfEvents.{at-event, none-left}
use Rattle.block_flows.proofs.Within.{alone-within, all-within}
use Rattle.block_flows.specs.IdleEvents.{AreFollowed}
use Rattle.least_set.specs.Logs.{IsExactly, SomeGives}
use Rattle.block_flows.specs.TupleFlows.Behind.{IsBehind}
use Rattle.block_flows.proofs.taken_rules.fired_on_the_way.Goals as goal

pub loop-number-init : goal.loop-number-init
loop-number-init c = (
  λ k f hs a are.
      let t = c.args.tuple.now in
      let root = c.args.is_root in
      let followed = c.args.followed.now.keys in
      let one = subst (λ z. IsNoted k f root followed hs hs 0 t z []) (sym c.in_ok-now.ensures) (notes-start k f root followed hs t) in (
        subst (λ z. IsNoted k f root followed hs hs 0 t c.in_ok-now.now.keys (map fire_in z)) (sym c.new-list.ensures.items) one,
        λ w. subst (AreFollowed followed) (sym c.in_ok-now.ensures) (alone-within followed t (sym c.is_within-within.ensures ∙ w)),
      ),
  λ k f hs a. let P = IsFirstAmong k hs f in All-same P _ [] c.new-list.ensures.items (All-nil P),
)

pub loop-number-preserved-then-leaves_all : goal.loop-number-preserved-then-leaves_all
loop-number-preserved-then-leaves_all c = (
  λ k f hs a are.
      let t = c.args.tuple.now in
      let root = c.args.is_root in
      let followed = c.args.followed.now.keys in
      let i = c.loop-number.number in
      let e = at-event k.machine k.depth f hs c.args.rules.now i c.index-rules-number.result a c.loop-number-test.true c.index-rules-number.is in
      let now = c.loop-number.now.keys in
      let old = map fire_in c.loop-number.list.items in
      let before = c.loop-number.invariant.0 k f hs a are in
      let left = c.leaves_all.ensures.kept c.if-leaves_all.true k e.0 f root followed now e.2 are before.1 in
      let noted = notes-next k f root followed hs e.0 (drop i hs) (drop (i + 1) hs) i t now now old [] e.1 before.0 left.behind (left.quiet i) in
      (subst (λ z. IsNoted k f root followed hs (drop (i + 1) hs) (i + 1) t now z) (append-nil old) noted, before.1),
  c.loop-number.invariant.1,
)

pub loop-number-preserved : goal.loop-number-preserved
loop-number-preserved c = (
  λ k f hs a are.
      let t = c.args.tuple.now in
      let root = c.args.is_root in
      let followed = c.args.followed.now.keys in
      let i = c.loop-number.number in
      let e = at-event k.machine k.depth f hs c.args.rules.now i c.index-rules-number.result a c.loop-number-test.true c.index-rules-number.is in
      let now = c.loop-number.now.keys in
      let behind = c.in_ok-behind.behind.keys in
      let old = c.loop-number.list.items in
      let more = c.in_ok-more.more.items in
      let exact = subst (λ z. IsExactly behind (SomeGives (IsBehind k e.0 f root followed) z)) c.items-left.ensures.keys (c.in_ok-behind.ensures k e.0 f e.2 are) in
      let taken = subst (λ z. IsExactly (map fire_in more) (SomeGives (TakenHere k e.0 f root followed i) z)) c.items-left.ensures.keys (c.in_ok-more.ensures.rules k e.0 f e.2 are) in
      let before = c.loop-number.invariant.0 k f hs a are in
      let noted = notes-next k f root followed hs e.0 (drop i hs) (drop (i + 1) hs) i t now behind (map fire_in old) (map fire_in more) e.1 before.0 exact taken in (
        subst (λ z. IsNoted k f root followed hs (drop (i + 1) hs) (i + 1) t behind z) (sym (ap (map fire_in) c.in_ok-append.ensures.items ∙ map-append fire_in old more)) noted,
        λ w. all-within followed k e.0 f root now behind exact,
      ),
  λ k f hs a.
      let P = IsFirstAmong k hs f in
      let i = c.loop-number.number in
      let e = at-event k.machine k.depth f hs c.args.rules.now i c.index-rules-number.result a c.loop-number-test.true c.index-rules-number.is in
      let more = c.in_ok-more.more.items in
      All-same P _ _ c.in_ok-append.ensures.items
      (All-append P c.loop-number.list.items more (c.loop-number.invariant.1 k f hs a) (among k hs f e.0 (drop (i + 1) hs) i more e.1 (c.in_ok-more.ensures.first k e.0 f e.2))),
)

pub returns-clause-rules : goal.returns-clause-rules
returns-clause-rules c = λ k f hs a are.
    let i = c.loop-number.number in
    let left = none-left k.machine k.depth f hs c.args.rules.now i a c.loop-number-test.false in
    notes-end k f c.args.is_root c.args.followed.now.keys hs (drop i hs) i c.args.tuple.now c.loop-number.now.keys (map fire_in c.loop-number.list.items) left (c.loop-number.invariant.0 k f hs a are).0

pub returns-clause-first : goal.returns-clause-first
returns-clause-first c = c.loop-number.invariant.1
