use Rattle.std.proofs.Common.{map, take}
use Rattle.std.specs.List.{All}
use Rattle.state_tuples.specs.AppliedRules.Events.{AreOfEvent}
use Rattle.block_flows.specs.Firings.{fire_in, TakenHere, IsFirstHere}
use Rattle.path_model.specs.CheckerModel.Happenings.{Function, Happening}
use Rattle.path_model.specs.CheckerModel.Reports.{Checker}
use Rattle.least_set.specs.Logs.{IsExactly, SomeGives}
use Rattle.block_flows.specs.TupleFlows.Moved.{AreObjects}
use Rattle.block_flows.proofs.taken_rules.fired_here.Given as goal

-- what is taken from the tuples that were gone through
abbrev pub invariant-loop-tuple : goal.invariant-loop-tuple
invariant-loop-tuple l = (
    (c : Checker) (h : Happening) (f : Function) → AreOfEvent c.machine c.depth h f l.rules → AreObjects c.depth l.followed.keys
    → IsExactly (map fire_in l.list.items) (SomeGives (TakenHere c h f l.is_root l.followed.keys l.number) (take l.tuple-index l.tuples))
    ) × ((c : Checker) (h : Happening) (f : Function) → AreOfEvent c.machine c.depth h f l.rules → All (IsFirstHere c h f l.number) l.list.items)
