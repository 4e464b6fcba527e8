-- How callees are entered.
use Rattle.std.specs.Prelude.{◌≡◌, ℕ, List, false}
use Rattle.c_objects.specs.Objects.{Object}
use Rattle.path_model.specs.CheckerModel.Happenings.{Function, Site}
use Rattle.path_model.specs.CheckerModel.Reports.{Checker}
use Rattle.path_edges.specs.EdgeSteps.Steps.{frame_edge}
use Rattle.path_edges.specs.declared.edges.Edge.{Edge}
use Rattle.state_tuples.specs.declared.tuple.Tuple.{Tuple}
use Rattle.block_flows.specs.TupleFlows.Passed.{IsEntered}

-- AN EDGE AT THE ENTRY of a callee with this number, which begins with this block, where this tuple stands before the call. The objects are
-- those that are followed here, in the caller, and there, in the callee.
pub record IsEntry (c : Checker) (s : Site) (callee : Function) (here there : List Object) (number block : ℕ) (t : Tuple) (d : Edge) : Type 0 where
  pub entry : Tuple
  pub entered : IsEntered c s callee here there t entry
  pub is : frame_edge false number block entry ≡ d
