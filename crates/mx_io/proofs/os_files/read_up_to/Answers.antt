use Rattle.std.proofs.Common.{refl, arith}
use Rattle.mx_io.proofs.KnownReads.{more_than}
use Rattle.mx_io.proofs.os_files.read_up_to.Goals as goal

pub returns : goal.returns
returns g c = (refl, more_than _ (g.S.Read.remaining c.filling.source) c.filling.bytes.items _ c.filling.invariant (omega (arith, c.filling.bytes.ok.0)))
