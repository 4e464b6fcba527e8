use Rattle.std.proofs.Common.{◌-◌, ◌<◌, ◌≤◌, ℕ, length}
use Rattle.c_lexer.specs.CReading.Chunks.{EndsChunk, Follow}
use Rattle.c_lexer.specs.Nests.{Nests}
use Rattle.c_lexer.proofs.chunk_bounds.chunks.Given as goal

abbrev pub invariant-cutting : goal.invariant-cutting
invariant-cutting l = record {
  within : l.index ≤ length l.all;
  order : l.start ≤ l.index;
  nests : Nests l.all l.index l.nesting.depth l.nesting.behind_paren l.nesting.in_body;
  deep : l.nesting.depth ≤ l.index;
  follow : Follow l.all 0 l.bounds.items l.start;
  none : (k : ℕ) → l.start ≤ k → k < l.index → EndsChunk l.all k → ⊥;
}

abbrev pub decreases-cutting : goal.decreases-cutting
decreases-cutting l = length l.all - l.index
