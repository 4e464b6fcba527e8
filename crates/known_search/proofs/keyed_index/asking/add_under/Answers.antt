use Rattle.std.proofs.Common.{Contains, subst}
use Rattle.least_set.specs.Indexes.{at}
use Rattle.least_set.specs.Logs.{Adds, SomeGives}
use Rattle.least_set.proofs.Growing.{all_of}
use Rattle.known_search.specs.KeyedIndex.Filed.{GivesAt}
use Rattle.known_search.proofs.KeyedIndex.Positions.{nothing_given, next_given, within}
use Rattle.known_search.proofs.keyed_index.asking.add_under.Goals as goal

pub loop-key-init : goal.loop-key-init
loop-key-init g c =
    let gives = g.F.Filing.gives c.args.filed.now.filing.now in
    nothing_given (λ k. SomeGives (GivesAt gives c.args.filed.now.changes.now c.args.thing.now) (at g.F.Key.PartialEq.eq c.args.filed.now.lists k)) c.args.found.now.items

pub add_at-requires : goal.add_at-requires
add_at-requires g c j m =
    within g.F.Key.PartialEq.eq g.met.F.Key.Key.same g.met.F.Key.Eq.laws.refl (g.F.Filing.key_of c.args.filed.now.filing.now) c.args.filed.now.changes.now (at g.F.Key.PartialEq.eq c.args.filed.now.lists) c.args.filed.now.right
    c.key-item.result j (subst (λ l. Contains l j) c.list_at-positions.ensures m)

pub loop-key-preserved : goal.loop-key-preserved
loop-key-preserved g c =
    let gives = g.F.Filing.gives c.args.filed.now.filing.now in
    let xs = c.args.filed.now.changes.now in
    let lists = at g.F.Key.PartialEq.eq c.args.filed.now.lists in
    let k = c.key-item.result in
    next_given (λ k. SomeGives (GivesAt gives xs c.args.thing.now) (lists k)) c.args.keys.now c.loop-key.key-index k c.args.found.now.items c.loop-key.found.items c.add_at.new.found.items c.loop-key-test.true c.key-item.is c.loop-key.invariant
    (subst (λ l. Adds (SomeGives (GivesAt gives xs c.args.thing.now) l) c.loop-key.found.items c.add_at.new.found.items) c.list_at-positions.ensures c.in_ok-add_at.ensures)

pub returns : goal.returns
returns g c =
    let gives = g.F.Filing.gives c.args.filed.now.filing.now in
    let xs = c.args.filed.now.changes.now in
    all_of (λ l. Adds (SomeGives (λ k. SomeGives (GivesAt gives xs c.args.thing.now) (at g.F.Key.PartialEq.eq c.args.filed.now.lists k)) l) c.args.found.now.items c.loop-key.found.items)
    c.args.keys.now c.loop-key.key-index c.loop-key-test.false c.loop-key.auto.key-index-end c.loop-key.invariant
