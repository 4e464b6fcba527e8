use Rattle.std.proofs.Common.{◌≡◌, ◌≤◌, ◌<◌, ◌∙◌, length, sym, slice_get, Some, arith}
use Rattle.std.proofs.lemmas.Grind.{common_steps}
use Rattle.function_tables.proofs.OfFunctions.{tables-next, tables-all, graph-read, graph-known, graphs-counted, graphs-next, graphs-all}
use Rattle.function_tables.proofs.tables.build_tables.Goals as goal
use Rattle.metal_tree.specs.Whole.{machine_view}
use Rattle.call_graph.specs.OfPrograms.Definitions.{definitions, trees_in}

pub bounds-graphs-number : goal.bounds-graphs-number
bounds-graphs-number c =
    let units = c.args.program.now.units.items in
    let counted = graphs-counted units c.args.graphs.now c.requires.graphs in
    let further : c.loop-number.number < length (definitions (trees_in units)) = grind (arith, common_steps) in
    omega (arith, counted, further)

pub function_table-requires-clause-graph : goal.function_table-requires-clause-graph
function_table-requires-clause-graph c =
    let units = c.args.program.now.units.items in
    let gs = c.args.graphs.now in
    let counted = graphs-counted units gs c.requires.graphs in
    let further : c.loop-number.number < length (definitions (trees_in units)) = grind (arith, common_steps) in
    graph-known units gs c.requires.graphs c.loop-number.number c.index-graphs-number.result
    (graph-read gs c.loop-number.number c.index-graphs-number.result (omega (arith, counted, further)) c.index-graphs-number.is)

pub loop-number-preserved : goal.loop-number-preserved
loop-number-preserved c =
    let units = c.args.program.now.units.items in
    let gs = c.args.graphs.now in
    let number = c.loop-number.number in
    let old = c.loop-number.tables.items in
    let new = c.push.new.self.items in
    let table = c.in_ok-table.table in
    let graph = c.index-graphs-number.result in
    let counted = graphs-counted units gs c.requires.graphs in
    let further : number < length (definitions (trees_in units)) = grind (arith, common_steps) in
    record {
      tables = tables-next (machine_view c.args.machine.now) c.args.depth units number table old new further c.in_ok-push.ensures.items c.in_ok-table.ensures.table c.loop-number.invariant.tables;
      graphs = graphs-next gs number graph table old new (graph-read gs number graph (omega (arith, counted, further)) c.index-graphs-number.is) c.in_ok-table.ensures.graph c.in_ok-push.ensures.items c.loop-number.invariant.graphs;
      within = grind (arith, further);
    }

pub returns-clause-tables : goal.returns-clause-tables
returns-clause-tables c =
    let units = c.args.program.now.units.items in
    let all : length (definitions (trees_in units)) ≤ c.loop-number.number = grind (arith, common_steps) in
    tables-all (machine_view c.args.machine.now) c.args.depth units c.loop-number.number c.loop-number.tables.items all c.loop-number.invariant.tables

pub returns-clause-graphs : goal.returns-clause-graphs
returns-clause-graphs c =
    let units = c.args.program.now.units.items in
    let counted = graphs-counted units c.args.graphs.now c.requires.graphs in
    let all : length (definitions (trees_in units)) ≤ c.loop-number.number = grind (arith, common_steps) in
    graphs-all c.args.graphs.now c.loop-number.number c.loop-number.tables.items (omega (arith, counted, all)) c.loop-number.invariant.graphs
