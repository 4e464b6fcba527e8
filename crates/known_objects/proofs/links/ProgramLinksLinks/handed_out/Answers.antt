use Rattle.std.proofs.Common.{subst}
use Rattle.known_objects.proofs.Gifts.{hands-out}
use Rattle.known_objects.proofs.links.ProgramLinksLinks.handed_out.Goals as goal
use Rattle.known_objects.specs.Linked.{handed_out_by}
use Rattle.known_search.proofs.Lists.{if-ok}
use Rattle.least_set.specs.Logs.{IsExactly, SomeGives}

pub returns : goal.returns
returns c =
    let s = c.args.self.now in
    let m = c.args.callee in
    if-ok _ _ c.given.result
    (λ list e. hands-out s.callers.filing.now.depth s.callers.changes.now m c.args.object.now list.items
    (subst (λ o. IsExactly list.items (SomeGives (λ z. handed_out_by s.callers.filing.now.depth z (m, o)) s.callers.changes.now)) c.copy.ensures e))
    c.given.ensures
