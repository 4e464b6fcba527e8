-- what was read so far is what the source gave up
use Rattle.std.proofs.Common.{◌+◌, ◌-◌, vec_len}
use Rattle.std.specs.Io.KnownBytes.{Consumes}
use Rattle.mx_io.proofs.os_files.read_up_to.Given as goal

abbrev pub invariant-filling : goal.invariant-filling
invariant-filling g l = Consumes (g.S.Read.remaining l.fn.source) (g.S.Read.remaining l.source) l.bytes.items

abbrev pub decreases-filling : goal.decreases-filling
decreases-filling g l = l.most + 1 - vec_len l.bytes
