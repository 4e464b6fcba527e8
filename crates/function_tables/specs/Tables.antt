-- WHAT THE TABLES OF FUNCTIONS SAY.
use Rattle.std.specs.Prelude.{◌≡◌, ℕ, List, map, slice_get, None, Some}
use Rattle.std.specs.List.{AllZip}
use Rattle.flow_graph.specs.CPaths.Graphs.{Block}
use Rattle.c_tree.specs.Node.{Node}
use Rattle.type_rules.specs.Functions.{Defined}
use Rattle.call_graph.specs.Followed.{followed}
use Rattle.path_model.specs.CheckerGraphs.Graphs.{AreGraphs, IsFlowGraphIn}
use Rattle.path_model.specs.CheckerPrograms.Texts.{functions_in, function_of, happening, type_table}
use Rattle.typed_unit.specs.Texts.{Text}
use Rattle.flow_graph.specs.Seen.{graph_in}
use Rattle.function_tables.specs.declared.table.BlockTable.{BlockTable}
use Rattle.function_tables.specs.declared.table.FunctionTable.{FunctionTable}
use Rattle.path_model.specs.CheckerGraphs.Ends.{call_in}
use Rattle.function_tables.specs.Rules.{AreOfEvents}
use Rattle.metal_tree.specs.MetalMachines.Machine.{Machine}

-- THE TABLE OF A BLOCK of a function of these texts: the rules of its events, and the function into which the call at its end is followed,
-- by its number
pub record IsBlockTable (m : Machine) (depth : ℕ) (ts : List Text) (d : Defined) (b : Block) (t : BlockTable) : Type 0 where
  pub rules : AreOfEvents m depth (function_of d) (map (happening ts (function_of d)) b.events) t.rules.items
  pub callee : (n : Node) → call_in b.ending ≡ Some n → t.callee ≡ followed m (type_table ts d.file) d.file (functions_in ts) n
  pub no_callee : call_in b.ending ≡ None → t.callee ≡ None

-- those of blocks, one by one
abbrev pub AreBlockTables : Machine → ℕ → List Text → Defined → List Block → List BlockTable → Type 0
AreBlockTables m depth ts d bs tables = AllZip (IsBlockTable m depth ts d) bs tables

-- THE TABLE OF A FUNCTION
pub record IsFunctionTable (m : Machine) (depth : ℕ) (ts : List Text) (d : Defined) (t : FunctionTable) : Type 0 where
  pub graph : IsFlowGraphIn ts d (graph_in t.graph.now)
  pub blocks : AreBlockTables m depth ts d (graph_in t.graph.now).blocks t.blocks.items

-- THE TABLES of a program: of each function one, in their order
pub record AreTables (m : Machine) (depth : ℕ) (ts : List Text) (tables : List FunctionTable) : Type 0 where
  pub graphs : AreGraphs ts (map (λ t. graph_in t.graph.now) tables)
  pub blocks : (n : ℕ) (d : Defined) (t : FunctionTable) → slice_get (functions_in ts) n ≡ Some d → slice_get tables n ≡ Some t
      → AreBlockTables m depth ts d (graph_in t.graph.now).blocks t.blocks.items
