use Rattle.std.proofs.Common.{subst}
use Rattle.std.specs.Prelude.{Contains}
use Rattle.least_set.specs.Logs.{IsExactly}
use Rattle.row_flows.specs.Crossing.{ends, shown}
use Rattle.block_summary.proofs.exits.worked_out.Goals as goal

pub returns : goal.returns
returns c =
    let crossed = c.in_ok-crossed.crossed in
    let r = c.args.is_root in
    let own = c.args.own.now in
    let t = c.args.tuple in record {
      tuples = subst (λ rows. IsExactly crossed.tuples.items (Contains (ends rows r own t))) c.as_slice.ensures.value c.in_ok-crossed.ensures.tuples;
      once = c.in_ok-crossed.ensures.once;
      firings = subst (λ rows. IsExactly crossed.firings.items (Contains (shown 0 rows r own t))) c.as_slice.ensures.value c.in_ok-crossed.ensures.firings;
    }
