use Rattle.std.proofs.Common.{subst, sym}
use Rattle.least_set.specs.Logs.{IsOnce}
use Rattle.least_set.proofs.Growing.{once}
use Rattle.row_flows.proofs.crossing.items.Goals as goal

pub returns-clause-once : goal.returns-clause-once
returns-clause-once g c = subst IsOnce (sym c.as_slice.ensures.keys) (once g.T.PartialEq.eq g.met.T.Eq.laws.refl c.args.set.now.keys c.as_slice.ensures.unique)
