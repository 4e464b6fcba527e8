use Rattle.std.proofs.Common.{◌≡◌, ℕ, [], length}
use Rattle.relevant.specs.ProgramRows.Filing.{at}
use Rattle.relevant.proofs.program_rows.filing.no_positions.Given as goal

-- so many empty lists
abbrev pub invariant-loop-number : goal.invariant-loop-number
invariant-loop-number l = record {
  count : length l.lists.items ≡ l._number;
  empty : (n : ℕ) → at l.lists.items n ≡ [];
}
