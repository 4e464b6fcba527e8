use Rattle.std.proofs.Common.{◌≡◌, true, take}
use Rattle.std.specs.List.{list_all}
use Rattle.block_flows.specs.QuietEvents.{is_quiet}
use Rattle.block_flows.proofs.quiet_events.are_quiet.Given as goal

-- so are the events that were gone through
abbrev pub invariant-loop-event : goal.invariant-loop-event
invariant-loop-event l = list_all is_quiet (take l.event-index l.rules) ≡ true
