use Rattle.std.proofs.Common.{◌<◌, ◌≤◌, [], length, subst, Contains, arith}
use Rattle.std.proofs.lemmas.Grind.{common_steps}
use Rattle.root_functions.proofs.GraphRoots.Visiting.{entered_next, entered_all}
use Rattle.least_set.specs.Logs.{Adds}
use Rattle.root_functions.proofs.graph_roots.reaching.entered.Goals as goal

pub loop-row-preserved : goal.loop-row-preserved
loop-row-preserved c =
    let rows = c.as_slice-row-items.result.now in
    let i = c.loop-row.row-index in
    let old = c.loop-row.found.keys in
    let new = c.add_all.new.found.keys in
    let within : i < length rows = grind (arith, common_steps) in
    entered_next rows i c.row-item.result [] old new within c.row-item.is c.loop-row.invariant
    (subst (λ xs. Adds (Contains xs) old new) c.as_slice.ensures.value c.in_ok-add_all.ensures)

pub returns : goal.returns
returns c =
    let rows = c.as_slice-row-items.result.now in
    let i = c.loop-row.row-index in
    let low : length rows ≤ i = grind (arith, common_steps) in
    let high : i ≤ length rows = grind (arith, common_steps) in
    entered_all rows c.args.callees.now.items i c.loop-row.found.keys c.as_slice-row-items.ensures.value low high c.loop-row.invariant
