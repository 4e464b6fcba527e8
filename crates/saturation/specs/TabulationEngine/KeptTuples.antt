-- WHAT IS KEPT of the tuples at the ends of blocks, by the edges for which they were computed.
use Rattle.std.specs.Prelude.{◌≡◌, Option, Some, Vec}
use Rattle.path_edges.specs.EdgeSteps.Steps.{StandsBehind}
use Rattle.function_tables.specs.EngineTables.Known.{AreKnown, checker_in, texts_in, graphs_in, objects_in}
use Rattle.function_tables.specs.declared.engine_tables.tables.Tables.{Tables}
use Rattle.least_set.specs.Logs.{IsExactly}
use Rattle.path_edges.specs.declared.edges.Edge.{Edge}
use Rattle.state_tuples.specs.declared.tuple.Tuple.{Tuple}

-- EACH LIST that is kept for an edge has exactly the tuples at the end of its block, as far as the tables are known
abbrev pub AreBehind : {A : Type 0} → Tables → (Edge → Option (Vec Tuple A)) → Type 0
AreBehind {A} t kept =
    AreKnown t → (e : Edge) (list : Vec Tuple A) → kept e ≡ Some list → IsExactly list.items (StandsBehind (checker_in t) (texts_in t) (graphs_in t) (objects_in t) e)
