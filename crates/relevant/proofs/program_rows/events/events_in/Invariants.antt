use Rattle.std.proofs.Common.{◌≡◌, map, take, slice_get}
use Rattle.std.specs.Prelude.{flat_map}
use Rattle.flow_graph.specs.CPaths.BlockGraphs.{events_at}
use Rattle.flow_graph.specs.Seen.{graph_in}
use Rattle.flow_graph.specs.Values.{event_of}
use Rattle.relevant.proofs.program_rows.events.events_in.Given as goal

-- those of the blocks before this one
abbrev pub invariant-loop-block : goal.invariant-loop-block
invariant-loop-block l = map event_of l.events.items ≡ flat_map (λ b. events_at (slice_get (graph_in l.graph).blocks b)) (take l.block-index l.blocks)
