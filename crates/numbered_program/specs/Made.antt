-- WHAT WAS MADE of a function, part by part.
use Rattle.std.specs.Prelude.{◌≡◌, ℕ, List, None, Some, length, slice_get}
use Rattle.flow_graph.specs.CPaths.Building.{Graph}
use Rattle.flow_graph.specs.CPaths.Graphs as graphs
use Rattle.flow_graph.specs.Seen.{graph_in}
use Rattle.function_tables.specs.EngineTables.Known.{checker_in, graphs_in, objects_in, texts_in}
use Rattle.function_tables.specs.declared.engine_tables.tables.Tables.{Tables}
use Rattle.numbered_engine.specs.declared.program.Block.{Block}
use Rattle.numbered_engine.specs.declared.program.Ending.{Ending}
use Rattle.numbered_engine.specs.declared.program.FunctionRows.{FunctionRows}
use Rattle.numbered_program.specs.Rows.{IsBlockOf, IsEndingOf, IsFunctionOf}
use Rattle.numbered_program.specs.Views.{swapped}
use Rattle.numbered_program.specs.declared.numbers.FunctionSource.{FunctionSource}
use Rattle.path_model.specs.CheckerGraphs.Graphs.{function_at}
use Rattle.path_model.specs.CheckerModel.Choices.{State}
use Rattle.path_model.specs.CheckerModel.Happenings.{Function}
use Rattle.path_model.specs.CheckerPrograms.Texts.{functions_in}

module _ (states : List State) (s : FunctionSource) (f : Function) where
  -- the end of a block that ends so in the function's graph
  abbrev pub IsEndingIn : graphs.Ending → Ending → Type 0
  IsEndingIn end e = IsEndingOf (checker_in s.tables.now) (texts_in s.tables.now) (graphs_in s.tables.now) (objects_in s.tables.now) states s.function (graph_in s.table.now.graph.now).entry f end e

  -- the block of the graph with this number
  abbrev pub IsBlockAt : ℕ → Block → Type 0
  IsBlockAt b r = (d : graphs.Block) × (slice_get (graph_in s.table.now.graph.now).blocks b ≡ Some d)
      × IsBlockOf (checker_in s.tables.now) (texts_in s.tables.now) (graphs_in s.tables.now) (objects_in s.tables.now) states s.function f (graph_in s.table.now.graph.now) d r

  -- ALL BLOCKS of the graph, the first in front
  pub record AreBlocksOf (blocks : List Block) : Type 0 where
    pub made : (b : ℕ) (r : Block) → slice_get blocks b ≡ Some r → IsBlockAt (swapped (graph_in s.table.now.graph.now).entry b) r
    pub missing : (b : ℕ) → slice_get blocks b ≡ None → slice_get (graph_in s.table.now.graph.now).blocks (swapped (graph_in s.table.now.graph.now).entry b) ≡ None

-- the rows of the function with a number, if there is one
abbrev pub AreRowsAt : Tables → List State → ℕ → FunctionRows → Type 0
AreRowsAt t states n r = (f : Function) (g : Graph) → function_at (texts_in t) n ≡ Some f → slice_get (graphs_in t) n ≡ Some g
    → IsFunctionOf (checker_in t) (texts_in t) (graphs_in t) (objects_in t) states n f g r

-- THE ROWS OF ALL FUNCTIONS
pub record AreFunctionsOf (t : Tables) (states : List State) (rows : List FunctionRows) : Type 0 where
  pub count : length rows ≡ length (functions_in (texts_in t))
  pub each : (n : ℕ) (r : FunctionRows) → slice_get rows n ≡ Some r → AreRowsAt t states n r
