use Rattle.std.proofs.Common.{◌≡◌, List, take}
use Rattle.block_flows.specs.Events.{AreOfEvents}
use Rattle.least_set.specs.Logs.{Adds}
use Rattle.masked_paths.specs.Met.{global_behind}
use Rattle.path_model.specs.CheckerModel.Checkers.{model}
use Rattle.path_model.specs.CheckerModel.Happenings.{Function, Happening}
use Rattle.path_model.specs.CheckerModel.Reports.{Checker}
use Rattle.suffix_summary.specs.MetStates.{GivesAmong}
use Rattle.suffix_summary.proofs.met_states.events.add_at_events.Given as goal

-- the global state is that behind the events before this one, and what takes a rule there was put behind
abbrev pub invariant-loop-rules : goal.invariant-loop-rules
invariant-loop-rules l =
    (c : Checker) (f : Function) (hs : List Happening) → AreOfEvents c.machine c.depth f hs l.events
    → (l.global ≡ global_behind (model c) f l.frames.is_root (take l.rules-index hs) l.first)
    × Adds (GivesAmong c f l.frames.is_root (take l.rules-index hs) l.first l.frames.function) l.fn.found.items l.found.items
