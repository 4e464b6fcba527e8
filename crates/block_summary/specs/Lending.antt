-- HOW A SUMMARY ENDS that lent what it holds.
use Rattle.std.specs.Prelude.{◌≡◌, ℕ, Bool, List, Result, Some, IfOk, OnErr, ⊤}
use Rattle.std.specs.Borrow.{Bor, Fml, MutBor, follows_so}
use mathlib.Core.Option.{none}
use Rattle.row_flows.specs.declared.blocks.BlockRows.{BlockRows}
use Rattle.row_flows.specs.declared.rows.EventRow.{EventRow}
use Rattle.block_summary.specs.Kept.{IsRight, Keeps, held_in}
use Rattle.block_summary.specs.contracts.summary.BlockSummary.{the_row}
use Rattle.block_summary.specs.declared.exits.Exits.{Exits}
use Rattle.block_summary.specs.declared.keys.Entered.{Entered}
use Rattle.block_summary.specs.declared.summary.BlockSummary.{BlockSummary}

-- behind it, of this result
pub record Enters {E : Type 0} (old new : BlockSummary) (block : BlockRows) (own : List Bool) (x : Entered) (r : Result (Bor Exits) E) : Type 0 where
  -- what it held it holds
  pub keeps : Keeps old new
  -- it holds what it lends
  pub lent : IfOk r (λ e. held_in new x ≡ Some e.now)
  -- where there was no memory it holds nothing more
  pub refused : OnErr r ((y : Entered) → held_in new y ≡ held_in old y)
  -- and what it holds is right, if it was
  pub right : (rows_of : ℕ → ℕ → List EventRow) (own_of : ℕ → List Bool) → rows_of x.function x.block ≡ block.rows.items → own_of x.function ≡ own
      → IsRight rows_of own_of old → IsRight rows_of own_of new

abbrev pub Ends : {E : Type 0} → MutBor BlockSummary → BlockRows → List Bool → Entered → Result (Bor Exits) E → Fml
Ends s block own x r = follows_so the_row the_row s.ghost_name none (λ _ _. ⊤) (λ n. Enters s.now n block own x r)
