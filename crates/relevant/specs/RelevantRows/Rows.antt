-- THE ROWS OF A PROGRAM: for each of its functions what happens in it, and the followed calls from it and into it.
use Rattle.std.specs.Prelude.{◌≡◌, ℕ, List, Contains, length, map, Some, slice_get}
use Rattle.flow_graph.specs.CPaths.Building.{Graph}
use Rattle.flow_graph.specs.CPaths.Events.{Event}
use Rattle.path_model.specs.CheckerModel.Happenings.{Function, Site}
use Rattle.path_model.specs.CheckerModel.Reports.{Checker}
use Rattle.path_model.specs.CheckerPrograms.Texts.{functions_in, objects_in}
use Rattle.typed_unit.specs.Texts.{Text}
use Rattle.flow_graph.specs.Values.{event_of}
use Rattle.objects.specs.Units.{facts_in}
use Rattle.flow_graph.specs.ReachedBlocks.Reached.{Happens}
use Rattle.refine_restore.specs.Sites.{site_of}
use Rattle.relevant.specs.declared.relevant_objects.rows.FollowedCall.{FollowedCall}
use Rattle.relevant.specs.declared.relevant_objects.rows.FunctionRow.{FunctionRow}
use Rattle.relevant.specs.RelevantSteps.Steps.{IsNumbered, IsCall}

-- the call passes the same as this one of the program
pub record Passes (depth : ℕ) (k : FollowedCall) (s : Site) : Type 0 where
  pub formals : (site_of depth k.site).formals ≡ s.formals
  pub actuals : (site_of depth k.site).actuals ≡ s.actuals

-- the row has a call between these functions that passes this
pub record HasCall (depth : ℕ) (row : FunctionRow) (n m : ℕ) (s : Site) : Type 0 where
  pub call : FollowedCall
  pub among : Contains row.calls.items call
  pub caller : call.caller ≡ n
  pub callee : call.callee ≡ m
  pub passes : Passes depth call s

module _ (c : Checker) (ts : List Text) (gs : List Graph) where
  -- a call of the program that passes the same
  pub record IsCallOfProgram (k : FollowedCall) : Type 0 where
    pub site : Site
    pub call : IsCall c ts gs k.caller k.callee site
    pub passes : Passes c.depth k site

  -- the row of the function with this number
  pub record IsRow (n : ℕ) (row : FunctionRow) : Type 0 where
    pub unit : (f : Function) (g : Graph) → IsNumbered c ts gs n f g → facts_in row.unit.now ≡ objects_in ts f.place.file
    pub happens : (f : Function) (g : Graph) (e : Event) → IsNumbered c ts gs n f g → Contains (map event_of row.events.items) e → Happens g e
    pub events : (f : Function) (g : Graph) (e : Event) → IsNumbered c ts gs n f g → Happens g e → Contains (map event_of row.events.items) e
    pub real : (k : FollowedCall) → Contains row.calls.items k → IsCallOfProgram k
    pub calls : (m : ℕ) (s : Site) → IsCall c ts gs n m s → HasCall c.depth row n m s
    pub called : (m : ℕ) (s : Site) → IsCall c ts gs m n s → HasCall c.depth row m n s

  pub record AreRows (rows : List FunctionRow) : Type 0 where
    pub count : length rows ≡ length (functions_in ts)
    pub each : (n : ℕ) (row : FunctionRow) → slice_get rows n ≡ Some row → IsRow n row
