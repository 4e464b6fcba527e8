use Rattle.std.proofs.Common.{subst, Contains}
use Rattle.least_set.specs.Logs.{IsExactly}
use Rattle.row_flows.specs.Crossing.{shown}
use Rattle.numbered_engine.proofs.showing.worked_out.Goals as goal

pub returns : goal.returns
returns c =
    let found = c.in_ok-crossed.crossed.firings.items in
    let e = c.args.edge.now in
    let rows = c.args.block.now.rows.rows.items in
    let there = subst (λ l. IsExactly found (Contains (shown 0 l c.is_own_frame-is_root.result c.as_slice-own.result.now e.tuple))) c.as_slice.ensures.value c.in_ok-crossed.ensures.firings in
    let own = subst (λ l. IsExactly found (Contains (shown 0 rows c.is_own_frame-is_root.result l e.tuple))) c.as_slice-own.ensures.value there in
    subst (λ k. IsExactly found (Contains (shown 0 rows k c.args.function.now.own.items e.tuple))) c.is_own_frame-is_root.ensures own
