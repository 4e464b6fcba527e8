use Rattle.std.proofs.Common.{◌≡◌, length}
use Rattle.c_lexer.specs.CReading.Markers.{are_flags}
use Rattle.c_lexer.proofs.markers.are_flags.Given as goal

abbrev pub invariant-going : goal.invariant-going
invariant-going l = are_flags l.rest ≡ are_flags l.text

abbrev pub decreases-going : goal.decreases-going
decreases-going l = length l.rest
