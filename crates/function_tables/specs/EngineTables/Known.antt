-- WHAT IS KNOWN of the tables of a program under a checker.
use Rattle.std.specs.Prelude.{◌≡◌, ◌↔◌, ◌<◌, ℕ, Bool, true, false, List, map, length, slice_get, Option, None, Some, Contains}
use Rattle.c_objects.specs.Objects.{Object}
use Rattle.flow_graph.specs.CPaths.Building.{Graph}
use Rattle.flow_graph.specs.CPaths.Graphs.{Ending, ToAny, Calls, Stops}
use Rattle.path_model.specs.CheckerModel.Reports.{Checker}
use Rattle.path_model.specs.CheckerPrograms.Roots.{IsRoot, Leads}
use Rattle.path_model.specs.CheckerPrograms.Texts.{functions_in}
use Rattle.typed_unit.specs.Texts.{Text, texts_of}
use Rattle.flow_graph.specs.Seen.{graph_in}
use Rattle.function_tables.specs.Tables.{AreTables}
use Rattle.metal_tree.specs.Whole.{machine_view}
use Rattle.function_tables.specs.declared.engine_tables.frames.Frame.{Frame}
use Rattle.function_tables.specs.declared.engine_tables.tables.Tables.{Tables}
use Rattle.block_flows.specs.TupleFlows.Moved.{AreObjects}

-- whether the function ends behind a block that ends so
abbrev pub is_stop : Option Ending → Bool
is_stop None = false
is_stop (Some (ToAny bs)) = false
is_stop (Some (Calls n b)) = false
is_stop (Some Stops) = true

-- the checker, the program and its graphs
abbrev pub checker_in : Tables → Checker
checker_in t = record { number = t.number; machine = machine_view t.machine.now; depth = t.depth; names = t.names.now }

abbrev pub texts_in : Tables → List Text
texts_in t = texts_of t.program.now.units.items

abbrev pub graphs_in : Tables → List Graph
graphs_in t = map (λ f. graph_in f.graph.now) t.functions.now

-- the objects that are followed in each function
abbrev pub objects_in : Tables → List (List Object)
objects_in t = map (λ os. os.keys) t.objects.now

-- THE TABLES are those of the program, each function has a list of followed objects, and the roots are the roots. Whether it is enough to
-- follow these is another matter: what an engine computes is exact under the mask that follows them alone, whichever they are.
pub record AreKnown (t : Tables) : Type 0 where
  pub tables : AreTables (machine_view t.machine.now) t.depth (texts_in t) t.functions.now
  pub count : length (objects_in t) ≡ length (functions_in (texts_in t))
  pub plain : (n : ℕ) (os : List Object) → slice_get (objects_in t) n ≡ Some os → AreObjects t.depth os
  pub roots : (n : ℕ) → Contains (map (λ f. f.number) t.roots.now) n ↔ (IsRoot (Leads (machine_view t.machine.now) (texts_in t)) n × (n < length (functions_in (texts_in t))))

-- the function with this number, as far as an engine asks of it
pub record IsFrame (t : Tables) (n : ℕ) (f : Frame) : Type 0 where
  pub table : slice_get t.functions.now n ≡ Some f.table.now
  pub objects : slice_get (objects_in t) n ≡ Some f.objects.now.keys
