use Rattle.std.proofs.Common.{subst}
use Rattle.known_objects.proofs.links.ProgramLinksLinks.entered.Goals as goal
use Rattle.known_objects.specs.Linked.{EntersIn}
use Rattle.known_search.proofs.Lists.{if-ok}
use Rattle.least_set.specs.Logs.{IsExactly}

pub returns : goal.returns
returns c =
    let s = c.args.self.now in
    if-ok _ _ c.given.result
    (λ list e. subst (λ o. IsExactly list.items (λ x. EntersIn s.entries.filing.now.depth s.entries.changes.now x.call c.args.function o x.callee x.object)) c.copy.ensures e)
    c.given.ensures
