use Rattle.std.proofs.Common.{◌≤◌, ◌++◌, length, map, append-nil, sym, ap, ◌∙◌}
use Rattle.std.proofs.lemmas.Option.{slice_get_past}
use Rattle.flow_graph.specs.CPaths.BlockGraphs.{events_at}
use Rattle.flow_graph.specs.Seen.{graph_in}
use Rattle.flow_graph.specs.Values.{event_of}
use Rattle.relevant.proofs.program_rows.events.add_events.Goals as goal

pub returns-else-block-count : goal.returns-else-block-count
returns-else-block-count c =
    let blocks = (graph_in c.args.graph.now).blocks in
    let events = map event_of c.args.events.now.items in
    let past : length blocks ≤ c.args.block = rw (← c.count.ensures) c.if-block-count.false in
    sym (append-nil events) ∙ ap (λ o. events ++ events_at o) (sym (slice_get_past blocks c.args.block past))
