use Rattle.std.proofs.Common.{◌≡◌, ◌+◌, length}
use Rattle.c_lexer.specs.Ways.Cutting.{closing}
use Rattle.c_lexer.specs.CReading.Scans.{plus}
use Rattle.c_lexer.proofs.literals.closing.Given as goal

abbrev pub invariant-going : goal.invariant-going
invariant-going l = record {
  found : plus l.count (closing l.rest) ≡ closing l.bytes;
  left : l.count + length l.rest ≡ length l.bytes;
}

abbrev pub decreases-going : goal.decreases-going
decreases-going l = length l.rest
