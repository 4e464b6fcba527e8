use Rattle.std.proofs.Common.{Contains}
use Rattle.relevant.specs.RelevantObjects.Links.{LinksFrom}
use Rattle.relevant.proofs.RelevantObjects.Gathered.{if-both, least-log}
use Rattle.relevant.proofs.relevant_objects.search.relevant.Goals as goal

pub returns-clause-exact : goal.returns-clause-exact
returns-clause-exact c =
    if-both _ _ _ c.closure.result (λ log closed only. least-log (Contains c.args.bound.now) (LinksFrom c.args.depth c.args.rows.now) log.keys closed only) c.closure.ensures.closed c.closure.ensures.only
