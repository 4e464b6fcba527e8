-- THE TABLES OF A PROGRAM: what they have for a frame at a block.
use Rattle.std.specs.Prelude.{ℕ, nat_eq, Bool, ◌&&◌, List, Option, None, Some, option_and_then, slice_get}
use Rattle.row_flows.specs.Crossing.{ends}
use Rattle.row_flows.specs.declared.tuples.NumberedTuple.{NumberedTuple}
use Rattle.numbered_engine.specs.declared.program.Block.{Block}
use Rattle.numbered_engine.specs.declared.program.Call.{Call}
use Rattle.numbered_engine.specs.declared.program.Ending.{Ending}
use Rattle.numbered_engine.specs.declared.program.Ending.TheVariants as ending
use Rattle.numbered_engine.specs.declared.program.FunctionRows.{FunctionRows}
use Rattle.numbered_engine.specs.declared.program.ProgramRows.{ProgramRows}

abbrev pub function_at : ProgramRows → ℕ → Option FunctionRows
function_at p n = slice_get p.functions.items n

abbrev pub block_of : FunctionRows → ℕ → Option Block
block_of f b = slice_get f.blocks.items b

abbrev pub block_at : ProgramRows → ℕ → ℕ → Option Block
block_at p n b = option_and_then (λ f. block_of f b) (function_at p n)

-- the call in which a block ends, if it does in one
abbrev pub call_in : Ending → Option Call
call_in (ending.Next bs) = None
call_in (ending.Calls c) = Some c
call_in ending.Exit = None

abbrev pub call_at : ProgramRows → ℕ → ℕ → Option Call
call_at p n b = option_and_then (λ (s : Block). call_in s.ending) (block_at p n b)

-- THE FRAME IS A ROOT'S OWN where a root begins as its own frame does: in `start`, which has the number 0, and with no known state
abbrev pub is_own_frame : FunctionRows → NumberedTuple → Bool
is_own_frame f t = f.is_root && (nat_eq t.global 0 && nat_eq t.state 0)

-- the tuples at the end of a block, where this one stands at its head
abbrev pub ends_in : FunctionRows → Block → NumberedTuple → NumberedTuple → List NumberedTuple
ends_in f b entry t = ends b.rows.rows.items (is_own_frame f entry) f.own.items t
