-- the bytes so far and those that are left are all
use Rattle.std.proofs.Common.{◌≡◌, ◌++◌, drop, flat_map}
use Rattle.report_model.specs.OfReporters.Styles.{escaped}
use Rattle.report_model.proofs.reporters.json.write_all_escaped.Given as goal

abbrev pub invariant-loop-byte : goal.invariant-loop-byte
invariant-loop-byte l = l.into ++ flat_map escaped (drop l.byte-index l.bytes) ≡ l.initial.into ++ flat_map escaped l.bytes
