-- Blocks that end in calls.
use Rattle.std.specs.Prelude.{ℕ, List, Option, None, Some, slice_get}
use Rattle.std.specs.Option.{option_map}
use Rattle.flow_graph.specs.CPaths.Graphs.{Block, Ending, ToAny, Calls, Stops}

-- how a block ends, if it is there
abbrev pub ending_at : List Block → ℕ → Option Ending
ending_at bs b = option_map (λ s. s.ending) (slice_get bs b)

-- an end that is a call
abbrev pub if_call : Ending → Option Ending
if_call (Calls n next) = Some (Calls n next)
if_call (ToAny bs) = None
if_call Stops = None
