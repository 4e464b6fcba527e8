use Rattle.std.proofs.Common.{◌≤◌, [], List, map}
use Rattle.flow_graph.specs.Seen.{graph_in}
use Rattle.function_tables.specs.Tables.{AreTables}
use Rattle.least_set.specs.Logs.{Adds}
use Rattle.path_model.specs.CheckerModel.Reports.{Checker}
use Rattle.suffix_summary.specs.InStart.{GivesBelow}
use Rattle.typed_unit.specs.Texts.{Text}
use Rattle.suffix_summary.proofs.met_states.start.bound_in_start.Given as goal

-- what the functions give that were gone through
abbrev pub invariant-loop-function : goal.invariant-loop-function
invariant-loop-function l = record {
  gives : (c : Checker) (ts : List Text) → AreTables c.machine c.depth ts l.tables → Adds (GivesBelow c ts (map (λ t. graph_in t.graph.now) l.tables) l.function) [] l.found.items;
  within : l.function ≤ l.count;
}
