use Rattle.std.proofs.Common.{◌≡◌, ◌++◌, length}
use Rattle.c_lexer.specs.CReading.Markers.{unescaped}
use Rattle.c_lexer.proofs.markers.unescaped.Given as goal

abbrev pub invariant-going : goal.invariant-going
invariant-going l = l.name.items ++ unescaped l.rest ≡ unescaped l.text

abbrev pub decreases-going : goal.decreases-going
decreases-going l = length l.rest
