use Rattle.std.proofs.Common.{[], take}
use Rattle.state_tuples.specs.AppliedRules.Events.{AreOfEvent}
use Rattle.path_model.specs.CheckerModel.Happenings.{Function, Happening}
use Rattle.path_model.specs.CheckerModel.Reports.{Checker}
use Rattle.least_set.specs.Logs.{Adds, SomeGives}
use Rattle.block_flows.specs.TupleFlows.Behind.{IsBehind}
use Rattle.block_flows.specs.TupleFlows.Moved.{AreObjects}
use Rattle.block_flows.proofs.fronts.next.Given as goal

-- those of the tuples that were gone through have been added
abbrev pub invariant-loop-tuple : goal.invariant-loop-tuple
invariant-loop-tuple l = (c : Checker) (h : Happening) (f : Function) → AreOfEvent c.machine c.depth h f l.rules → AreObjects c.depth l.followed.keys
    → Adds (SomeGives (IsBehind c h f l.is_root l.followed.keys) (take l.tuple-index l.tuples)) [] l.set.keys
