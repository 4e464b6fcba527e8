-- A CALL BY NUMBER STANDS FOR ONE OF A PROGRAM, under the checker that follows the objects of some lists alone.
use Rattle.std.specs.Prelude.{◌≡◌, ℕ, List, Some}
use Rattle.block_flows.specs.TupleFlows.Passed.{IsSite}
use Rattle.c_objects.specs.Objects.{Object}
use Rattle.flow_graph.specs.CPaths.Building.{Graph}
use Rattle.numbered_engine.specs.declared.program.Call.{Call}
use Rattle.numbered_paths.specs.Calls.{IsCall}
use Rattle.numbered_paths.specs.Views.{AreNumbers, Views}
use Rattle.block_flows.specs.Masks.{graphs_under, model_under, objects_under, origins_under}
use Rattle.path_model.specs.CheckerModel.Happenings.{Function, Site}
use Rattle.path_model.specs.CheckerModel.Reports.{Checker}
use Rattle.refine_restore.specs.declared.site.Site as code
use Rattle.row_flows.specs.Numbers.{item_numbered}
use Rattle.typed_unit.specs.Texts.{Text}

module _ (c : Checker) (ts : List Text) (gs : List Graph) (lists : List (List Object)) (V : Views (model_under c ts lists) (graphs_under c ts gs lists)) where
  -- a function has this number, and its numbers from 1 on stand for these objects
  pub record IsNumberedBy (n : ℕ) (f : Function) (objects : List Object) : Type 0 where
    pub function : V.function n ≡ Some f
    pub object : (i : ℕ) → V.object n i ≡ item_numbered objects i

  -- the call stands for one at this site of the caller, which calls this function
  abbrev pub StandsFor : ℕ → Function → Site → Function → Call → Type 0
  StandsFor n f s h call = IsCall (model_under c ts lists) (origins_under c ts lists) (objects_under c ts lists) (graphs_under c ts gs lists) V n call.callee f h
      (record { caller = f; site = s; callee = h }) call

-- it stands for each that passes what the site does, where these are the objects of its two functions
abbrev pub StandsForSites : ℕ → code.Site → List Object → List Object → Call → Type 0
StandsForSites depth site here there call = (c : Checker) (ts : List Text) (gs : List Graph) (lists : List (List Object)) (V : Views (model_under c ts lists) (graphs_under c ts gs lists))
    → AreNumbers (model_under c ts lists) (objects_under c ts lists) (graphs_under c ts gs lists) V
    → (n : ℕ) (f : Function) (s : Site) (h : Function) → c.depth ≡ depth → IsSite depth site s
    → IsNumberedBy c ts gs lists V n f here → IsNumberedBy c ts gs lists V call.callee h there → StandsFor c ts gs lists V n f s h call
