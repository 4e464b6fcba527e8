use Rattle.std.proofs.Common.{◌≡◌, length}
use Rattle.c_lexer.specs.CReading.Constants.{value_after}
use Rattle.c_lexer.proofs.constants.value_up_to.Given as goal

abbrev pub invariant-going : goal.invariant-going
invariant-going l = value_after l.base l.value l.rest ≡ value_after l.base 0 l.digits

abbrev pub decreases-going : goal.decreases-going
decreases-going l = length l.rest
