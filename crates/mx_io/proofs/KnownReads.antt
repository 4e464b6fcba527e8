-- Reads from a source of which something is told.
use Rattle.std.proofs.Common.{ℕ, ◌<◌, List, length, Option, None, Some, refl, ap, length-append, arith}
use Rattle.std.specs.Io.KnownBytes.{Consumes}
use Rattle.mx_io.specs.Reads.{HasMoreThan}

-- a source that gave up more bytes than so many had more
pub more_than : (told rest : Option (List ℕ)) (got : List ℕ) (most : ℕ) → Consumes told rest got → most < length got → HasMoreThan told most
more_than None rest got most _ more = (got, tt, more)
more_than (Some xs) None got most gone more = absurd gone
more_than (Some xs) (Some ys) got most gone more = (xs, refl, omega (arith, more, ap length gone, length-append got ys))
