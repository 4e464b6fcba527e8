-- WHERE EDGES STAND: the global states that they meet at the first places of blocks.
use Rattle.std.specs.Prelude.{◌≡◌, ℕ, Bool, List, Some, Contains}
use Rattle.flow_graph.specs.CPaths.Building.{Graph}
use Rattle.masked_paths.specs.Met.{BlockStates}
use Rattle.path_model.specs.CheckerGraphs.Graphs.{flow_graphs, function_at}
use Rattle.path_model.specs.CheckerModel.Checkers.{model}
use Rattle.path_model.specs.CheckerModel.Happenings.{Function}
use Rattle.path_model.specs.CheckerModel.Reports.{Checker}
use Rattle.path_edges.specs.declared.edges.Edge.{Edge}
use Rattle.typed_unit.specs.Texts.{Text}

-- an edge of the list stands at the block with that global state, in a frame of that function and that kind
pub record StandsAt (ts : List Text) (log : List Edge) (f : Function) (k : Bool) (b g : ℕ) : Type 0 where
  pub edge : Edge
  pub among : Contains log edge
  pub named : function_at ts edge.context.function ≡ Some f
  pub kind : edge.is_root ≡ k
  pub block : edge.block ≡ b
  pub global : edge.tuple.global ≡ g

abbrev pub stands_in : (c : Checker) (ts : List Text) (gs : List Graph) → List Edge → BlockStates (model c) (flow_graphs c ts gs)
stands_in c ts gs log f k b g = StandsAt ts log f k b g
