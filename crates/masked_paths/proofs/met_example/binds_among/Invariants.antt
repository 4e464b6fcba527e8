use Rattle.std.proofs.Common.{◌≡◌, drop}
use Rattle.masked_paths.proofs.MetWalks.{bound_in}
use Rattle.masked_paths.proofs.met_example.binds_among.Given as goal

-- the events that are left bind, from the global state behind those that were gone through, just what all bind from the first
abbrev pub invariant-loop-event : goal.invariant-loop-event
invariant-loop-event l = bound_in l.events l.initial.global l.pointer ≡ bound_in (drop l.event-index l.events) l.global l.pointer
