use Rattle.std.proofs.Common.{Contains, ap}
use Rattle.known_objects.proofs.SameLinks.{same-links}
use Rattle.known_objects.proofs.search.known_over.Goals as goal
use Rattle.known_objects.specs.Linked.{IsIn}
use Rattle.known_search.proofs.Lists.{if-ok}
use Rattle.known_search.specs.Closed.{IsClosed}
use Rattle.known_search.specs.Steps.{IsFound}

pub returns-clause-closed : goal.returns-clause-closed
returns-clause-closed c = if-ok _ _ c.known.result
    (λ found h. same-links (λ m e k. IsClosed (λ f o. Contains c.args.bound.now (f, o)) m e k (IsIn found.keys)) _ _ _ c.args.depth _ c.args.moves.now _ _ c.args.calls.now
    (ap (λ r. r.now.depth) c.in_ok-file.ensures.same)
    (ap (λ r. r.now) c.in_ok-file.ensures.changes)
    (ap (λ r. r.now.depth) c.in_ok-file-2.ensures.same)
    (ap (λ r. r.now) c.in_ok-file-2.ensures.changes)
    (ap (λ r. r.now.depth) c.in_ok-file-3.ensures.same)
    (ap (λ r. r.now) c.in_ok-file-3.ensures.changes)
    h)
    c.known.ensures.closed

pub returns-clause-only : goal.returns-clause-only
returns-clause-only c = if-ok _ _ c.known.result
    (λ found h. same-links (λ m e k. (y : _) → Contains found.keys y → IsFound (λ f o. Contains c.args.bound.now (f, o)) m e k y) _ _ _ c.args.depth _ c.args.moves.now _ _ c.args.calls.now
    (ap (λ r. r.now.depth) c.in_ok-file.ensures.same)
    (ap (λ r. r.now) c.in_ok-file.ensures.changes)
    (ap (λ r. r.now.depth) c.in_ok-file-2.ensures.same)
    (ap (λ r. r.now) c.in_ok-file-2.ensures.changes)
    (ap (λ r. r.now.depth) c.in_ok-file-3.ensures.same)
    (ap (λ r. r.now) c.in_ok-file-3.ensures.changes)
    h)
    c.known.ensures.only
