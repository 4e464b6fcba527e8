use Rattle.std.proofs.Common.{ℕ, List, take}
use Rattle.relevant.specs.BoundMembers.Bound.{BoundAt}
use Rattle.relevant.proofs.bound_members.events.add_at_events.Given as goal
use Rattle.path_model.specs.CheckerModel.Happenings.{Function, Happening}
use Rattle.function_tables.specs.Rules.{AreOfEvents}
use Rattle.least_set.specs.Logs.{Adds, SomeGives}
use Rattle.metal_tree.specs.MetalMachines.Machine.{Machine}

-- what rules bind at the events before this one was put behind
abbrev pub invariant-loop-rules : goal.invariant-loop-rules
invariant-loop-rules l =
    (m : Machine) (depth : ℕ) (f : Function) (hs : List Happening) → AreOfEvents m depth f hs l.events
    → Adds (SomeGives (BoundAt l.sources m depth l.number f) (take l.rules-index hs)) l.fn.found.items l.found.items
