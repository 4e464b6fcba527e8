use Rattle.std.proofs.Common.{◌≡◌, true, take}
use Rattle.std.specs.List.{list_all}
use Rattle.block_flows.specs.QuietEvents.{is_silent}
use Rattle.block_flows.proofs.quiet_events.is_quiet.Given as goal

-- the alternatives that were gone through are of rules without an action
abbrev pub invariant-loop-fired : goal.invariant-loop-fired
invariant-loop-fired l = list_all is_silent (take l.fired-index l.fired-items) ≡ true
