-- WHAT THE NUMBERS OF A PROGRAM'S ROWS STAND FOR, where the objects of these lists are followed, and these states have numbers.
use Rattle.std.specs.Prelude.{◌≡◌, ℕ, nat_eq, cond, List, [], Some, slice_get}
use Rattle.c_objects.specs.Objects.{Object}
use Rattle.flow_graph.specs.CPaths.Building.{Graph}
use Rattle.numbered_program.specs.NumberedEvents.Saying.{Says}
use Rattle.numbered_paths.specs.Views.{Views}
use Rattle.block_flows.specs.Masks.{graphs_under, model_under}
use Rattle.path_model.specs.CheckerGraphs.Graphs.{function_at}
use Rattle.path_model.specs.CheckerModel.Choices.{State}
use Rattle.path_model.specs.CheckerModel.Happenings.{Function}
use Rattle.path_model.specs.CheckerModel.Reports.{Checker}
use Rattle.report_model.specs.declared.report.Report.{Report}
use Rattle.row_flows.specs.Numbers.{item_numbered}
use Rattle.row_flows.specs.declared.behind.Firing.{Firing}
use Rattle.type_rules.specs.Options.{if_there}
use Rattle.typed_unit.specs.Texts.{Text}

-- A BLOCK'S NUMBER: the first block of a graph has the number 0, and the block 0 has the number of the first; the others keep theirs
abbrev pub swapped : ℕ → ℕ → ℕ
swapped first b = cond (nat_eq b 0) first (cond (nat_eq b first) 0 b)

-- the objects that are followed in the function with a number
abbrev pub listed_at : List (List Object) → ℕ → List Object
listed_at lists n = if_there (slice_get lists n) [] (λ os. os)

-- of the function with a number: the block of its graph with this number, and the number of this block
abbrev pub block_at : List Graph → ℕ → ℕ → ℕ
block_at gs n b = if_there (slice_get gs n) b (λ g. swapped g.entry b)

module _ (c : Checker) (ts : List Text) (gs : List Graph) (lists : List (List Object)) (states : List State) where
  abbrev pub views : Views (model_under c ts lists) (graphs_under c ts gs lists)
  views = record {
    function = function_at ts;
    object = λ n. item_numbered (listed_at lists n);
    state = item_numbered states;
    global = λ g. g;
    block = block_at gs;
  }

  -- THE REPORT OF A FIRING in the block with this number of the function with this one
  pub record SaysIn (n b : ℕ) (x : Firing) (r : Report) : Type 0 where
    pub fn : Function
    pub named : function_at ts n ≡ Some fn
    pub says : Says c ((graphs_under c ts gs lists).events fn (block_at gs n b)) (listed_at lists n) x r
