use Rattle.std.proofs.Common.{◌≡◌, ◌+◌, ℕ, List, length}
use Rattle.c_lexer.specs.CReading.Pieces.{behind_bytes}
use Rattle.c_lexer.specs.Progress.{here_of, InBounds}
use Rattle.c_lexer.proofs.here.Here.behind_bytes.Given as goal

abbrev pub invariant-going : goal.invariant-going
invariant-going l = record {
  stands : (file : List ℕ) → behind_bytes (here_of file l.here) l.rest ≡ behind_bytes (here_of file l.fn.self) l.bytes;
  source : l.here.source ≡ l.fn.self.source;
  offset : l.here.offset + length l.rest ≡ l.fn.self.offset + length l.bytes;
  bounds : InBounds l.here;
}

abbrev pub decreases-going : goal.decreases-going
decreases-going l = length l.rest
