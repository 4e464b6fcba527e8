use Rattle.std.proofs.Common.{map, sym, subst}
use Rattle.std.proofs.lemmas.Result.{IfOk-weaker}
use Rattle.flow_graph.specs.Seen.{graph_in}
use Rattle.flow_graph.specs.Values.{event_of}
use Rattle.least_set.specs.Logs.{IsExactly}
use Rattle.relevant.proofs.ProgramRows.Happening.{happens-exactly}
use Rattle.relevant.proofs.program_rows.events.events_of.Goals as goal
use Rattle.flow_graph.specs.ReachedBlocks.Reached.{Reaches}

pub returns : goal.returns
returns c =
    let g = graph_in c.args.graph.now in
    let all = subst (λ l. IsExactly l (Reaches g)) (sym c.as_slice.ensures.value) c.in_ok-blocks.ensures.exact in
    IfOk-weaker c.events_in.result _ _ (λ events is. happens-exactly g c.as_slice.result.now (map event_of events.items) is all) c.events_in.ensures
