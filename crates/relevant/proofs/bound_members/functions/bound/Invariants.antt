use Rattle.std.proofs.Common.{List, map}
use Rattle.relevant.specs.BoundMembers.Bound.{BoundBefore}
use Rattle.relevant.proofs.bound_members.functions.bound.Given as goal
use Rattle.path_model.specs.CheckerModel.Reports.{Checker}
use Rattle.typed_unit.specs.Texts.{Text}
use Rattle.flow_graph.specs.Seen.{graph_in}
use Rattle.function_tables.specs.Tables.{AreTables}
use Rattle.least_set.specs.Logs.{IsExactly}

-- what rules bind in the functions before this one is there
abbrev pub invariant-loop-number : goal.invariant-loop-number
invariant-loop-number l =
    (c : Checker) (ts : List Text) → AreTables c.machine c.depth ts l.tables → IsExactly l.found.items (BoundBefore l.sources c ts (map (λ t. graph_in t.graph.now) l.tables) l.number)
