-- WHAT A SUMMARY KEEPS.
use Rattle.std.specs.Prelude.{◌≡◌, ℕ, Bool, true, List, Option, Some, IsSome, cond}
use Rattle.indexmap.specs.IndexMap.{get}
use Rattle.entry_log.specs.Sets.{is_in}
use Rattle.row_flows.specs.Concerns.{all_calm}
use Rattle.row_flows.specs.declared.rows.EventRow.{EventRow}
use Rattle.row_flows.specs.declared.tuples.NumberedTuple.{NumberedTuple}
use Rattle.block_summary.specs.Exits.{AreExits}
use Rattle.block_summary.specs.contracts.keys.EnteredPartialEq.TheImpl.{eq-value as same}
use Rattle.block_summary.specs.contracts.keys.MarkRowPartialEq.TheImpl.{eq-value as same_row}
use Rattle.block_summary.specs.declared.exits.Exits.{Exits}
use Rattle.block_summary.specs.declared.keys.Entered.{Entered}
use Rattle.block_summary.specs.declared.keys.MarkRow.{MarkRow}
use Rattle.block_summary.specs.declared.summary.BlockSummary.{BlockSummary}

-- the row of marks for a block that is entered so
abbrev pub mark_row : Entered → MarkRow
mark_row x = record { function = x.function; tuple = x.tuple; is_root = x.is_root }

-- the block was found to leave the tuple alone
abbrev pub is_marked : BlockSummary → Entered → Bool
is_marked s x = is_in same_row.it s.marked (mark_row x) x.block

-- the exits that are kept for it alone
abbrev pub kept_in : BlockSummary → Entered → Option Exits
kept_in s x = get same.it s.kept x

-- THE EXITS that it holds for a block that is entered so, if any: the shared ones where the block was found to leave the tuple alone, or its own
abbrev pub held_in : BlockSummary → Entered → Option Exits
held_in s x = cond (is_marked s x) (Some s.unchanged) (kept_in s x)

-- WHAT IT HELD IT HOLDS, and lends the same
pub record Keeps (old new : BlockSummary) : Type 0 where
  pub held : (x : Entered) → IsSome (held_in old x) → held_in new x ≡ held_in old x

-- ALL THAT IT HOLDS IS RIGHT for functions whose blocks have these rows, and which have these own objects
pub record IsRight (rows_of : ℕ → ℕ → List EventRow) (own_of : ℕ → List Bool) (s : BlockSummary) : Type 0 where
  pub unchanged : (rows : List EventRow) (is_root : Bool) (own : List Bool) (t : NumberedTuple) → all_calm t.object rows ≡ true → AreExits rows is_root own t s.unchanged
  pub held : (x : Entered) (e : Exits) → held_in s x ≡ Some e → AreExits (rows_of x.function x.block) x.is_root (own_of x.function) x.tuple e
