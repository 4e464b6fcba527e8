use Rattle.std.proofs.Common.{◌≡◌, ◌<◌, length, ◌∙◌, arith}
use Rattle.std.proofs.lemmas.Grind.{common_steps}
use Rattle.function_tables.proofs.Gathered.{gathered-next, gathered-all, count-next}
use Rattle.function_tables.proofs.graphs.build_graphs.Goals as goal
use Rattle.call_graph.specs.OfPrograms.Definitions.{definitions, trees_in}

pub loop-number-preserved : goal.loop-number-preserved
loop-number-preserved c =
    let units = c.args.program.now.units.items in
    let number = c.loop-number.number in
    let old = c.loop-number.graphs.items in
    let new = c.push.new.self.items in
    let graph = c.in_ok-graph.graph in
    let further : number < length (definitions (trees_in units)) = grind (arith, common_steps) in
    record {
      gathered = gathered-next units old new graph number c.loop-number.invariant.gathered c.loop-number.invariant.count further c.in_ok-push.ensures.items c.in_ok-graph.ensures.sound c.in_ok-graph.ensures.traces;
      count = count-next old new graph number c.loop-number.invariant.count c.in_ok-push.ensures.items;
      within = grind (arith, further);
    }

pub returns : goal.returns
returns c =
    let units = c.args.program.now.units.items in
    let all : c.loop-number.number ≡ length (definitions (trees_in units)) = grind (arith, common_steps) in
    gathered-all units c.loop-number.graphs.items c.loop-number.invariant.gathered (c.loop-number.invariant.count ∙ all)
