-- HOW A LOG OF NUMBERS READS: the entry for which each of its edges stands.
use Rattle.std.specs.Prelude.{◌≡◌, ℕ, List, Some}
use Rattle.std.specs.List.{AllZip}
use Rattle.block_flows.specs.Masks.{graphs_under, model_under, objects_under}
use Rattle.c_objects.specs.Objects.{Object}
use Rattle.flow_graph.specs.CPaths.Building.{Graph}
use Rattle.numbered_engine.specs.declared.edges.NumberedEdge.{NumberedEdge}
use Rattle.numbered_paths.specs.Views.{fact_at}
use Rattle.numbered_program.specs.Views.{block_at, views}
use Rattle.path_model.specs.CheckerGraphs.Graphs.{AreGraphs, function_at}
use Rattle.path_model.specs.CheckerModel.Choices.{State}
use Rattle.path_model.specs.CheckerModel.Reports.{Checker}
use Rattle.path_theory.specs.Facts.{FactOf}
use Rattle.row_flows.specs.declared.tuples.NumberedTuple.{NumberedTuple}
use Rattle.typed_unit.specs.Texts.{Text}
use Rattle.suffix_summary.specs.Entries.{EntryIn, IsLog}

module _ (c : Checker) (ts : List Text) (gs : List Graph) (lists : List (List Object)) (states : List State) where
  -- no object, or the object and the state with these numbers, in the function with this one
  abbrev pub fact_in : ℕ → NumberedTuple → FactOf Object State
  fact_in n t = fact_at (model_under c ts lists) (objects_under c ts lists) (graphs_under c ts gs lists) (views c ts gs lists states) n t

  -- THE EDGE STANDS FOR THE ENTRY
  pub record StandsFor (edge : NumberedEdge) (e : EntryIn c ts gs) : Type 0 where
    pub function : function_at ts edge.context.function ≡ Some e.fn
    pub global₀ : edge.context.entry.global ≡ e.global₀
    pub fact₀ : fact_in edge.context.function edge.context.entry ≡ e.fact₀
    pub block : block_at gs edge.context.function edge.block ≡ e.block
    pub global : edge.tuple.global ≡ e.global
    pub fact : fact_in edge.context.function edge.tuple ≡ e.fact

-- THE EDGES READ AS THE LOG of the checker over these graphs, which are those of the program, where these objects have numbers in each function
pub record ReadAsLog (c : Checker) (ts : List Text) (gs : List Graph) (lists : List (List Object)) (edges : List NumberedEdge) : Type 0 where
  pub graphs : AreGraphs ts gs
  pub states : List State
  pub log : List (EntryIn c ts gs)
  pub reads : AllZip (StandsFor c ts gs lists states) edges log
  pub is : IsLog c ts gs log
