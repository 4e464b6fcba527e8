use Rattle.std.proofs.Common.{List, map, sym, subst}
use Rattle.flow_graph.specs.Seen.{graph_in}
use Rattle.flow_graph.specs.declared.graph.Graph.{Graph}
use Rattle.path_model.specs.CheckerGraphs.Graphs.{AreGraphs}
use Rattle.typed_unit.specs.Texts.{texts_of}
use Rattle.command.specs.CheckerReports.Checkers.{checkers_in}
use Rattle.command.proofs.CheckerReports.Counting.{from-none}
use Rattle.metal_tree.specs.Whole.{machine_view}
use Rattle.command.proofs.checker_reports.found.all_found.Goals as goal

-- the graphs are lent
pub counted_reports-requires-clause-graphs : goal.counted_reports-requires-clause-graphs
counted_reports-requires-clause-graphs c = subst (λ (gs : List Graph). ∥ AreGraphs (texts_of c.args.program.now.units.items) (map (λ g. graph_in g) gs) ∥₁) (sym c.as_slice.ensures.value) c.in_ok-graphs.ensures

pub all_reports-requires-clause-graphs : goal.all_reports-requires-clause-graphs
all_reports-requires-clause-graphs c = subst (λ (gs : List Graph). ∥ AreGraphs (texts_of c.args.program.now.units.items) (map (λ g. graph_in g) gs) ∥₁) (sym c.as_slice-2.ensures.value) c.in_ok-graphs.ensures

pub returns-then-stats-clause-counted : goal.returns-then-stats-clause-counted
returns-then-stats-clause-counted c =
    let checkers = checkers_in (map machine_view c.args.machines.now) c.args.depth c.args.names.now in (
      c.if-stats.true,
      from-none checkers (texts_of c.args.program.now.units.items) c.new-steps.result.count c.counted_reports.new.steps.count c.count.result c.new-steps.ensures c.count.ensures c.in_ok-reports.ensures.logs,
    )
