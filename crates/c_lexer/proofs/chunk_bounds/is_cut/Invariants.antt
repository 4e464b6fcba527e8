use Rattle.std.proofs.Common.{◌≡◌, ◌+◌, ◌-◌, ◌≤◌, ℕ, true, false, length}
use Rattle.c_lexer.specs.CReading.Chunks.{EndsChunk}
use Rattle.c_lexer.specs.Nests.{Nests}
use Rattle.c_lexer.proofs.chunk_bounds.is_cut.Given as goal

abbrev pub invariant-going : goal.invariant-going
invariant-going l = record {
  within : l.index ≤ length l.all;
  nests : Nests l.all l.index l.nesting.depth l.nesting.behind_paren l.nesting.in_body;
  deep : l.nesting.depth ≤ l.index;
  some : l.ends ≡ true → (n : ℕ) → l.index ≡ n + 1 → EndsChunk l.all n;
  none : l.ends ≡ false → (n : ℕ) × (l.index ≡ n + 1) × (EndsChunk l.all n → ⊥);
}

abbrev pub decreases-going : goal.decreases-going
decreases-going l = length l.all - l.index
