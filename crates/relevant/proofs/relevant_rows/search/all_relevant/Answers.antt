use Rattle.std.proofs.Common.{Contains, subst}
use Rattle.least_set.specs.Logs.{IsExactly}
use Rattle.least_set.specs.OnePremise.{Least}
use Rattle.relevant.specs.RelevantObjects.Links.{LinksFrom}
use Rattle.relevant.proofs.RelevantObjects.Gathered.{if-ok}
use Rattle.relevant.proofs.RelevantRows.Exact.{are-relevant}
use Rattle.relevant.proofs.relevant_rows.search.all_relevant.Goals as goal

pub returns-clause-relevant : goal.returns-clause-relevant
returns-clause-relevant c =
    let rows = c.args.rows.now in
    let bound = c.args.bound.now in
    if-ok _ _ c.relevant.result
    (λ found all w k ts gs e graphs apart are is n f o named. are-relevant w k ts gs rows bound found.keys graphs apart are is (subst (λ d. IsExactly found.keys (Least (Contains bound) (LinksFrom d rows))) e all) n f o named)
    c.relevant.ensures.exact
