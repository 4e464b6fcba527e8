-- so far the sink took what stands before `at`
use Rattle.std.proofs.Common.{◌≡◌, ◌≤◌, ◌+◌, ◌-◌, drop, length, take}
use Rattle.std.specs.Io.KnownBytes.{Appends}
use Rattle.command.proofs.Handing.{LeadsOn}
use Rattle.command.proofs.write_out.write_whole.Given as goal

abbrev pub invariant-loop-at : goal.invariant-loop-at
invariant-loop-at g l =
    let sink = g.S.Sink in
    record {
      within : l.at ≤ length l.text;
      taken : Appends (sink.received l.fn.sink) (sink.received l.sink) (take l.at l.text);
      still : sink.faults l.sink ≡ sink.faults l.fn.sink;
      fitting : length l.text ≤ sink.sure l.fn.sink → length l.text ≤ sink.sure l.sink + l.at;
      handed : LeadsOn sink.write_gives l.fn.sink l.text l.sink (drop l.at l.text);
    }

abbrev pub decreases-loop-at : goal.decreases-loop-at
decreases-loop-at g l = length l.text - l.at
