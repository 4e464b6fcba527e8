use Rattle.std.proofs.Common.{map, sym, ap, ◌∙◌, subst}
use Rattle.std.specs.Option.{option_map}
use Rattle.std.proofs.lemmas.Result.{on_ok_weaker}
use Rattle.flow_graph.specs.Seen.{graph_in}
use Rattle.least_set.specs.Logs.{IsExactly}
use Rattle.relevant.specs.ProgramRows.Ends.{followed_in}
use Rattle.relevant.proofs.ProgramRows.FollowedCalls.{calls-of}
use Rattle.relevant.proofs.program_rows.calls.add_calls_of.Goals as goal
use Rattle.flow_graph.specs.ReachedBlocks.Reached.{Reaches}

pub returns-clause-calls : goal.returns-clause-calls
returns-clause-calls c =
    let table = c.in-Some.table.now in
    let at = sym c.table_at.ensures ∙ ap (option_map (λ t. t.now)) c.in-Some.is in
    let all = subst (λ blocks. IsExactly blocks (Reaches (graph_in table.graph.now))) (sym c.as_slice.ensures.value) c.in_ok-blocks.ensures.exact in
    on_ok_weaker c.add_calls_in.result
    (calls-of table c.args.caller c.args.tables.now c.as_slice.result.now (map followed_in c.args.calls.now.items) (map followed_in c.add_calls_in.new.calls.items) at all)
    c.add_calls_in.ensures.calls
