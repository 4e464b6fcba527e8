use Rattle.std.proofs.Common.{Contains, sym, subst}
use Rattle.known_objects.proofs.links.ProgramLinksLinks.bound.Goals as goal
use Rattle.known_search.proofs.Lists.{if-ok}
use Rattle.least_set.specs.Logs.{IsExactly}

pub returns : goal.returns
returns c =
    let bound = c.args.self.now.bound.now in
    if-ok _ _ c.copies.result (λ list same. subst (λ l. IsExactly l (λ x. Contains bound (x.0, x.1))) (sym same) (λ x h. h, λ x h. h)) c.copies.ensures
