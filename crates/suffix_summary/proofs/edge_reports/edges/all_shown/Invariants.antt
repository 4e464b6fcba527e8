use Rattle.std.proofs.Common.{◌≤◌, List, length, take}
use Rattle.function_tables.specs.EngineTables.Known.{AreKnown}
use Rattle.least_set.specs.Logs.{IsExactly, SomeGives}
use Rattle.path_model.specs.CheckerModel.Choices.{State}
use Rattle.suffix_summary.specs.EdgeReports.Shown.{ShowsIn}
use Rattle.suffix_summary.proofs.edge_reports.edges.all_shown.Given as goal

-- those of the edges that were gone through
abbrev pub invariant-loop-index : goal.invariant-loop-index
invariant-loop-index g l = record {
  shown : (states : List State) → AreKnown l.tables → IsExactly l.reports.items (SomeGives (ShowsIn l.tables states l.engine.program.now) (take l.index l.log.keys));
  within : l.index ≤ length l.log.keys;
}
