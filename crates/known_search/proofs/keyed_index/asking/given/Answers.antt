use Rattle.std.proofs.Common.{Contains, subst, sym}
use Rattle.least_set.specs.Indexes.{at}
use Rattle.least_set.specs.Logs.{Adds, SomeGives}
use Rattle.known_search.specs.KeyedIndex.Filed.{GivesAt}
use Rattle.known_search.proofs.KeyedIndex.Positions.{all_given}
use Rattle.known_search.proofs.keyed_index.asking.given.Goals as goal

pub returns : goal.returns
returns g c =
    let gives = g.F.Filing.gives c.args.filed.now.filing.now in
    let key = g.F.Filing.key_of c.args.filed.now.filing.now in
    let xs = c.args.filed.now.changes.now in
    let lists = at g.F.Key.PartialEq.eq c.args.filed.now.lists in
    all_given g.F.Key.PartialEq.eq g.met.F.Key.Key.same g.met.F.Key.Eq.laws.refl key xs lists c.args.filed.now.right gives c.args.thing.now c.as_slice.result.now c.add_under.new.found.items (λ x t h. subst (λ l. Contains l (key x)) (sym c.as_slice.ensures.value) (c.in_ok-keys.ensures x t h))
    (subst (λ l. Adds (SomeGives (λ k. SomeGives (GivesAt gives xs c.args.thing.now) (lists k)) c.as_slice.result.now) l c.add_under.new.found.items) c.new-found.ensures.items c.in_ok-add_under.ensures)
