use Rattle.std.proofs.Common.{◌+◌, ◌<◌, length, ap, ◌∙◌, sym, subst, arith}
use Rattle.std.proofs.lemmas.Grind.{common_steps}
use Rattle.std.proofs.lemmas.List.{length_push}
use Rattle.relevant.specs.ProgramRows.Made.{AreMade}
use Rattle.relevant.proofs.ProgramRows.MadeRows.{no-rows, rows-next}
use Rattle.relevant.proofs.program_rows.rows.rows_from.Goals as goal
use Rattle.call_graph.specs.OfPrograms.Definitions.{definitions, trees_in}

pub loop-number-init : goal.loop-number-init
loop-number-init c =
    let units = c.args.program.now.units.items in
    record {
      count = ap length c.new-rows.ensures.items;
      made = subst (AreMade units c.args.tables.now c.args.calls.now) (sym c.new-rows.ensures.items) (no-rows units c.args.tables.now c.args.calls.now);
      within = omega arith;
    }

pub loop-number-preserved : goal.loop-number-preserved
loop-number-preserved c =
    let units = c.args.program.now.units.items in
    let at = c.loop-number in
    let row = c.in_ok-row.row in
    let further : at.number < length (definitions (trees_in units)) = grind (arith, common_steps) in
    record {
      count = ap length c.in_ok-push.ensures.items ∙ length_push at.rows.items row ∙ ap (λ n. n + 1) at.invariant.count;
      made = rows-next units c.args.tables.now c.args.calls.now at.number row at.rows.items c.push.new.self.items at.invariant.count c.in_ok-push.ensures.items c.in_ok-row.ensures at.invariant.made;
      within = grind (arith, further);
    }
