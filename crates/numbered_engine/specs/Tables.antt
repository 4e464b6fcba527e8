-- What the tables of a program have by numbers, where a block or a function that isn't there has nothing.
use Rattle.std.specs.Prelude.{ℕ, Bool, List, []}
use Rattle.std.specs.Option.{option_map_or}
use Rattle.row_flows.specs.declared.rows.EventRow.{EventRow}
use Rattle.numbered_engine.specs.Program.{block_at, function_at}
use Rattle.numbered_engine.specs.declared.program.Block.{Block}
use Rattle.numbered_engine.specs.declared.program.FunctionRows.{FunctionRows}
use Rattle.numbered_engine.specs.declared.program.ProgramRows.{ProgramRows}

-- the rows of a block
abbrev pub rows_in : ProgramRows → ℕ → ℕ → List EventRow
rows_in p n b = option_map_or (λ (s : Block). s.rows.rows.items) (block_at p n b) []

-- which objects are a function's own
abbrev pub own_in : ProgramRows → ℕ → List Bool
own_in p n = option_map_or (λ (f : FunctionRows). f.own.items) (function_at p n) []
