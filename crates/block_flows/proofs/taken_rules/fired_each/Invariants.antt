use Rattle.std.proofs.Common.{◌≡◌, map, take}
use Rattle.std.specs.List.{All, filter_map}
use Rattle.state_tuples.specs.AppliedRules.Events.{AreOfEvent}
use Rattle.block_flows.specs.Firings.{fire_of, fire_in, IsFirstHere}
use Rattle.path_model.specs.CheckerModel.Happenings.{Function, Happening}
use Rattle.path_model.specs.CheckerModel.Reports.{Checker}
use Rattle.block_flows.proofs.taken_rules.fired_each.Given as goal

-- the tuples that were gone through
abbrev pub invariant-loop-tuple : goal.invariant-loop-tuple
invariant-loop-tuple l = (c : Checker) (h : Happening) (f : Function) → AreOfEvent c.machine c.depth h f l.rules
    → (map fire_in l.list.items ≡ filter_map (fire_of c h f l.is_root l.number) (take l.tuple-index l.tuples)) × All (IsFirstHere c h f l.number) l.list.items
