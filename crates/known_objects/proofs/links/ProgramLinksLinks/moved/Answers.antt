use Rattle.std.proofs.Common.{subst}
use Rattle.known_objects.proofs.links.ProgramLinksLinks.moved.Goals as goal
use Rattle.known_objects.specs.Linked.{MovesIn}
use Rattle.known_search.proofs.Lists.{if-ok}
use Rattle.least_set.specs.Logs.{IsExactly}

pub returns : goal.returns
returns c =
    let s = c.args.self.now in
    if-ok _ _ c.given.result (λ list e. subst (λ o. IsExactly list.items (MovesIn s.moves.filing.now.depth s.moves.changes.now c.args.function o)) c.copy.ensures e) c.given.ensures
