use Rattle.std.proofs.Common.{◌≡◌, true, List, drop}
use Rattle.block_flows.specs.Events.{AreOfEvents}
use Rattle.block_flows.specs.IdleEvents.{AreFollowed}
use Rattle.block_flows.proofs.Standing.{OnWay}
use Rattle.path_model.specs.CheckerModel.Happenings.{Function, Happening}
use Rattle.path_model.specs.CheckerModel.Reports.{Checker}
use Rattle.block_flows.specs.TupleFlows.Moved.{AreObjects}
use Rattle.block_flows.proofs.crossing.ends.Given as goal

-- these stand on the way, before the events that are left; their objects are followed, if that of the first is
abbrev pub invariant-loop-event : goal.invariant-loop-event
invariant-loop-event l = (c : Checker) (f : Function) (hs : List Happening) → AreOfEvents c.machine c.depth f hs l.rules → AreObjects c.depth l.followed.keys
    → OnWay c f l.is_root l.followed.keys hs (drop l.event-index hs) l.tuple l.now.keys × (l.within ≡ true → AreFollowed l.followed.keys l.now.keys)
