use Rattle.std.proofs.Common.{sym, subst, Contains}
use Rattle.row_flows.proofs.Lists.{of_flat, to_flat}
use Rattle.row_flows.specs.Behind.{behind}
use Rattle.row_flows.proofs.crossing.next.Goals as goal

pub returns-clause-exactly : goal.returns-clause-exactly
returns-clause-exactly c =
    let B = behind c.args.row.now c.args.is_root c.args.own.now in
    let ts = c.args.tuples.now in
    let all = c.in_ok-found.ensures in
    let exact = c.in_ok-list.ensures.exactly in (
      λ u m. of_flat B ts u (subst (λ l. Contains l u) all (exact.0 u m)),
      λ u s. exact.1 u (subst (λ l. Contains l u) (sym all) (to_flat B ts u s)),
    )
