-- OUT OF WHAT ROWS ARE MADE: the numbers of all functions, and a function among them.
use Rattle.std.specs.Prelude.{◌≡◌, ◌↔◌, ℕ, List, map, Option, Some, slice_get, Contains}
use Rattle.std.specs.List.{AllZip}
use Rattle.std.specs.Option.{option_map}
use Rattle.c_objects.specs.Objects.{Object}
use Rattle.c_tree.specs.Node.{Node}
use Rattle.numbered_program.specs.EventTables.ObjectIndex.{IsIndexOf}
use Rattle.flow_graph.specs.CPaths.Graphs.{Ending}
use Rattle.flow_graph.specs.Seen.{graph_in}
use Rattle.function_tables.specs.EngineTables.Known.{AreKnown, checker_in, objects_in, texts_in}
use Rattle.function_tables.specs.declared.engine_tables.tables.Tables.{Tables}
use Rattle.least_set.specs.Logs.{IsOnce}
use Rattle.numbered_program.specs.declared.numbers.FunctionSource.{FunctionSource}
use Rattle.numbered_program.specs.declared.numbers.Numbers.{Numbers}
use Rattle.path_model.specs.CheckerGraphs.Graphs.{function_at}
use Rattle.path_model.specs.CheckerModel.Choices.{State}
use Rattle.path_model.specs.CheckerModel.Happenings.{Function}
use Rattle.path_model.specs.CheckerPrograms.Roots.{followed_into}
use Rattle.path_model.specs.CheckerPrograms.Texts.{site}

-- THE NUMBERS OF A FUNCTION in which these objects are followed, each once
pub record AreNumbersOf (states : List State) (os : List Object) (n : Numbers) : Type 0 where
  pub follows : n.numbering.objects.now.keys ≡ os
  pub named : n.numbering.states.now.states.keys ≡ states
  pub index : IsIndexOf n.numbering.objects.now.keys n.index
  pub once : IsOnce os

-- those of functions, one by one
abbrev pub AreNumbered : List State → List (List Object) → List Numbers → Type 0
AreNumbered states lists numbers = AllZip (AreNumbersOf states) lists numbers

-- the numbers of the roots
abbrev pub AreRootsOf : Tables → List ℕ → Type 0
AreRootsOf t numbers = (n : ℕ) → Contains numbers n ↔ Contains (map (λ f. f.number) t.roots.now) n

-- WHAT A FUNCTION'S ROWS ARE MADE OF: its table and its numbers, among those of a program of which all is known
pub record IsSourceOf (states : List State) (s : FunctionSource) (f : Function) : Type 0 where
  pub known : AreKnown s.tables.now
  pub numbered : AreNumbered states (objects_in s.tables.now) s.numbers.now
  pub table : slice_get s.tables.now.functions.now s.function ≡ Some s.table.now
  pub own : slice_get s.numbers.now s.function ≡ Some s.own.now
  pub named : function_at (texts_in s.tables.now) s.function ≡ Some f

-- the block of its graph with this number ends so
abbrev pub EndsIn : FunctionSource → ℕ → Ending → Type 0
EndsIn s b end = option_map (λ d. d.ending) (slice_get (graph_in s.table.now.graph.now).blocks b) ≡ Some end

-- the function into which a call in it is followed
abbrev pub followed_from : FunctionSource → Function → Node → Option Function
followed_from s f call = followed_into (checker_in s.tables.now).machine (site s.tables.now.depth (texts_in s.tables.now) f call)
