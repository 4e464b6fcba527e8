use Rattle.std.proofs.Common.{◌≡◌, map, take}
use Rattle.state_tuples.specs.AppliedRules.Events.{AreOfEvent}
use Rattle.path_model.specs.CheckerModel.Happenings.{Function, Happening}
use Rattle.path_model.specs.CheckerModel.Reports.{Checker}
use Rattle.block_flows.specs.TupleFlows.Behind.{chosen_tuple}
use Rattle.block_flows.proofs.tuple_flows.behind.chosen_each.Given as goal

-- the tuples that were gone through
abbrev pub invariant-loop-tuple : goal.invariant-loop-tuple
invariant-loop-tuple l = (c : Checker) (h : Happening) (f : Function) → AreOfEvent c.machine c.depth h f l.rules → l.list.items ≡ map (chosen_tuple c h f l.is_root l.next) (take l.tuple-index l.tuples)
