use Rattle.std.proofs.Common.{take}
use Rattle.function_tables.specs.EngineTables.Known.{AreKnown, checker_in, texts_in, graphs_in, objects_in}
use Rattle.least_set.specs.Logs.{IsExactly, SomeGives}
use Rattle.path_edges.specs.Relations.{ShowsAt}
use Rattle.saturation.proofs.edge_reports.edges.all_shown.Given as goal

-- those of the edges that were gone through
abbrev pub invariant-loop-edge : goal.invariant-loop-edge
invariant-loop-edge l = AreKnown l.tables → IsExactly l.reports.items (SomeGives (ShowsAt (checker_in l.tables) (texts_in l.tables) (graphs_in l.tables) (objects_in l.tables)) (take l.edge-index l.edges))
