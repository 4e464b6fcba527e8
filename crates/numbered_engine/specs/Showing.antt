-- WHAT AN EDGE SHOWS: the alternatives of rules with an action that are taken at its block.
use Rattle.std.specs.Prelude.{List, []}
use Rattle.std.specs.Option.{option_map_or}
use Rattle.row_flows.specs.Crossing.{shown}
use Rattle.row_flows.specs.declared.behind.Firing.{Firing}
use Rattle.numbered_engine.specs.Program.{block_of, function_at, is_own_frame}
use Rattle.numbered_engine.specs.declared.edges.NumberedEdge.{NumberedEdge}
use Rattle.numbered_engine.specs.declared.program.Block.{Block}
use Rattle.numbered_engine.specs.declared.program.FunctionRows.{FunctionRows}
use Rattle.numbered_engine.specs.declared.program.ProgramRows.{ProgramRows}

abbrev pub shown_in : NumberedEdge → FunctionRows → Block → List Firing
shown_in e f b = shown 0 b.rows.rows.items (is_own_frame f e.context.entry) f.own.items e.tuple

abbrev pub shown_by : NumberedEdge → FunctionRows → List Firing
shown_by e f = option_map_or (shown_in e f) (block_of f e.block) []

-- an edge that is none of the program shows none
abbrev pub shown_at : ProgramRows → NumberedEdge → List Firing
shown_at p e = option_map_or (shown_by e) (function_at p e.context.function) []
