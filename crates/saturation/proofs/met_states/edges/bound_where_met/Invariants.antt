use Rattle.std.proofs.Common.{[], List, map, take}
use Rattle.flow_graph.specs.Seen.{graph_in}
use Rattle.function_tables.specs.Tables.{AreTables}
use Rattle.least_set.specs.Logs.{Adds, SomeGives}
use Rattle.path_model.specs.CheckerGraphs.Graphs.{AreApartPlaces}
use Rattle.path_model.specs.CheckerModel.Reports.{Checker}
use Rattle.path_model.specs.CheckerPrograms.Texts.{functions_in}
use Rattle.saturation.specs.MetStates.{GivesBound}
use Rattle.typed_unit.specs.Texts.{Text}
use Rattle.saturation.proofs.met_states.edges.bound_where_met.Given as goal

-- what the edges give that were gone through
abbrev pub invariant-loop-edge : goal.invariant-loop-edge
invariant-loop-edge l =
    (c : Checker) (ts : List Text) → AreApartPlaces (functions_in ts) → AreTables c.machine c.depth ts l.tables
    → Adds (SomeGives (GivesBound c ts (map (λ t. graph_in t.graph.now) l.tables)) (take l.edge-index l.edges)) [] l.found.items
