-- WHAT A FIRING SAYS: the report of the alternative at its place among those that apply at its event, about the object with its number.
use Rattle.std.specs.Prelude.{◌≡◌, List, Some, slice_get}
use Rattle.c_objects.specs.Objects.{Object}
use Rattle.masked_paths.specs.Masked.{EventIn}
use Rattle.path_model.specs.CheckerModel.Choices.{scene}
use Rattle.path_model.specs.CheckerModel.Happenings.{Function, Happening}
use Rattle.path_model.specs.CheckerModel.Reports.{Checker, report_of}
use Rattle.report_model.specs.declared.report.Report.{Report}
use Rattle.row_flows.specs.Numbers.{item_numbered}
use Rattle.row_flows.specs.declared.behind.Firing.{Firing}
use Rattle.state_tuples.specs.AppliedRules.Applied.{Applied, applied_at}

-- at this event of this function, where these objects are followed
pub record SaysAt (c : Checker) (h : Happening) (f : Function) (followed : List Object) (x : Firing) (r : Report) : Type 0 where
  pub alternative : Applied
  pub stands : slice_get (applied_at (scene c.machine c.depth h f) h.event c.machine.rules) x.place ≡ Some alternative
  pub gives : report_of c h f (item_numbered followed x.object) alternative.taken ≡ Some r

-- at the one of these events that has its number
pub record Says (c : Checker) (es : List (EventIn Function Happening)) (followed : List Object) (x : Firing) (r : Report) : Type 0 where
  pub event : EventIn Function Happening
  pub among : slice_get es x.event ≡ Some event
  pub says : SaysAt c event.event event.fn followed x r
