use Rattle.std.proofs.Common.{◌≡◌, true, List, drop, map}
use Rattle.std.specs.List.{All}
use Rattle.block_flows.specs.Events.{AreOfEvents}
use Rattle.block_flows.specs.Firings.{fire_in, IsFirstAmong}
use Rattle.block_flows.specs.IdleEvents.{AreFollowed}
use Rattle.block_flows.proofs.Fires.{IsNoted}
use Rattle.path_model.specs.CheckerModel.Happenings.{Function, Happening}
use Rattle.path_model.specs.CheckerModel.Reports.{Checker}
use Rattle.block_flows.specs.TupleFlows.Moved.{AreObjects}
use Rattle.block_flows.proofs.taken_rules.fired_on_the_way.Given as goal

-- what is taken at the events that were gone through is noted; the objects of those that stand there are followed, if that of the first is
abbrev pub invariant-loop-number : goal.invariant-loop-number
invariant-loop-number l = (
    (c : Checker) (f : Function) (hs : List Happening) → AreOfEvents c.machine c.depth f hs l.rules → AreObjects c.depth l.followed.keys
    → IsNoted c f l.is_root l.followed.keys hs (drop l.number hs) l.number l.tuple l.now.keys (map fire_in l.list.items)
    × (l.within ≡ true → AreFollowed l.followed.keys l.now.keys)
    ) × ((c : Checker) (f : Function) (hs : List Happening) → AreOfEvents c.machine c.depth f hs l.rules → All (IsFirstAmong c hs f) l.list.items)
