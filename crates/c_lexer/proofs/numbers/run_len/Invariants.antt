use Rattle.std.proofs.Common.{◌≡◌, ◌+◌, length}
use Rattle.c_lexer.specs.CReading.Runs.{run_len}
use Rattle.c_lexer.specs.CReading.Spellings.{goes_on}
use Rattle.c_lexer.proofs.numbers.run_len.Given as goal

abbrev pub invariant-going : goal.invariant-going
invariant-going l = record {
  counted : l.count + run_len goes_on l.previous l.rest ≡ run_len goes_on l.first l.bytes;
  left : l.count + length l.rest ≡ length l.bytes;
}

abbrev pub decreases-going : goal.decreases-going
decreases-going l = length l.rest
