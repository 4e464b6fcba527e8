use Rattle.std.proofs.Common.{◌≡◌, subst}
use Rattle.least_set.specs.Indexes.{at, Extends}
use Rattle.known_search.proofs.KeyedIndex.Positions.{next_filed}
use Rattle.known_search.proofs.keyed_index.filing.file.Goals as goal

pub loop-position-preserved : goal.loop-position-preserved
loop-position-preserved g c =
    let eq = g.F.Key.PartialEq.eq in
    let key = g.F.Filing.key_of c.args.filing.now in
    let i = c.loop-position.position in
    let x = c.index-changes-position.result in
    next_filed eq g.met.F.Key.Key.same g.met.F.Key.Eq.laws.refl key c.args.changes.now i x (at eq c.loop-position.lists) (at eq c.push_at.new.lists) c.loop-position-test.true c.index-changes-position.is c.loop-position.invariant
    (subst (λ q. Extends (λ k j. (q ≡ k) × (i ≡ j)) (at eq c.loop-position.lists) (at eq c.push_at.new.lists)) c.key-key.ensures c.in_ok-push_at.ensures)
