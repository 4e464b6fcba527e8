-- WHAT FOLLOWS FROM AN EDGE ALONE: the edges at the next blocks, and those with which a callee begins.
use Rattle.std.specs.Prelude.{ℕ, nat_eq, cond, List, [], ◌∷◌, ◌++◌, flat_map, map}
use Rattle.std.specs.Option.{option_map_or}
use Rattle.row_flows.specs.Behind.{given}
use Rattle.row_flows.specs.declared.rows.Touched.{Touched}
use Rattle.row_flows.specs.declared.tuples.NumberedTuple.{NumberedTuple}
use Rattle.numbered_engine.specs.Program.{block_of, ends_in, function_at}
use Rattle.numbered_engine.specs.declared.edges.NumberedContext.{NumberedContext}
use Rattle.numbered_engine.specs.declared.edges.NumberedEdge.{NumberedEdge}
use Rattle.numbered_engine.specs.declared.program.Block.{Block}
use Rattle.numbered_engine.specs.declared.program.Ending.{Ending}
use Rattle.numbered_engine.specs.declared.program.Ending.TheVariants as ending
use Rattle.numbered_engine.specs.declared.program.FunctionRows.{FunctionRows}
use Rattle.numbered_engine.specs.declared.program.ProgramRows.{ProgramRows}

-- WHAT PASSES between a caller and its callee: the tuple without an object as it is, and each object that has its state from that of the tuple
abbrev pub passed : List Touched → NumberedTuple → List NumberedTuple
passed rows t = cond (nat_eq t.object 0) (t ∷ []) [] ++ flat_map (given t) rows

abbrev pub context : ℕ → NumberedTuple → NumberedContext
context n t = record { function = n; entry = t }

abbrev pub at : NumberedContext → NumberedTuple → ℕ → NumberedEdge
at k t b = record { context = k; block = b; tuple = t }

-- the first edge of a frame
abbrev pub first : ℕ → NumberedTuple → NumberedEdge
first n t = at (context n t) t 0

-- from a tuple at the end of a block
abbrev pub led_from : NumberedContext → Ending → NumberedTuple → List NumberedEdge
led_from k (ending.Next bs) t = map (at k t) bs.items
led_from k (ending.Calls c) t = map (first c.callee) (passed c.entered.items t)
led_from k ending.Exit t = []

abbrev pub led_in : NumberedEdge → FunctionRows → Block → List NumberedEdge
led_in e f b = flat_map (led_from e.context b.ending) (ends_in f b e.context.entry e.tuple)

abbrev pub led_by : NumberedEdge → FunctionRows → List NumberedEdge
led_by e f = option_map_or (led_in e f) (block_of f e.block) []

-- WHAT FOLLOWS; from an edge that is none of the program nothing does
abbrev pub led : ProgramRows → NumberedEdge → List NumberedEdge
led p e = option_map_or (led_by e) (function_at p e.context.function) []
