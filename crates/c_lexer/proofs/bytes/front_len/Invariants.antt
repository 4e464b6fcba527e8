use Rattle.std.proofs.Common.{◌≡◌, ◌+◌, length}
use Rattle.std.specs.List.{prefix_len}
use Rattle.c_lexer.specs.Tests.{test_of}
use Rattle.c_lexer.proofs.bytes.front_len.Given as goal

abbrev pub invariant-going : goal.invariant-going
invariant-going l = record {
  counted : l.count + prefix_len (test_of l.class) l.rest ≡ prefix_len (test_of l.class) l.bytes;
  left : l.count + length l.rest ≡ length l.bytes;
}

abbrev pub decreases-going : goal.decreases-going
decreases-going l = length l.rest
