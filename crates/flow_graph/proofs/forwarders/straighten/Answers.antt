use Rattle.std.proofs.Common.{◌≡◌, ℕ, List, map, ap, ◌∙◌, subst}
use Rattle.flow_graph.specs.CPaths.Forwarders.{redirected}
use Rattle.flow_graph.specs.Finals.{AreFinal}
use Rattle.flow_graph.specs.Targets.{target_of}
use Rattle.flow_graph.specs.Seen.{graph_in}
use Rattle.flow_graph.specs.Values.{blocks_of}
use Rattle.flow_graph.specs.declared.graph.Block.{Block}
use Rattle.flow_graph.proofs.RedirectedGraphs.{straightened}
use Rattle.flow_graph.proofs.forwarders.straighten.Goals as goal

pub returns : goal.returns
returns c =
    let bs = c.args.blocks.items in
    let entry = c.args.entry in
    let finals = c.in_ok-finals.finals.items in
    let final = subst (λ (xs : List Block). AreFinal (blocks_of xs) finals) c.as_slice.ensures.value c.in_ok-finals.ensures in
    let begins = c.target_of-begin.ensures ∙ ap (λ (ns : List ℕ). target_of ns entry) c.as_slice-2.ensures.value in
    let led = c.in_ok-straight.ensures ∙ ap (λ (ns : List ℕ). map (redirected (target_of ns)) (blocks_of bs)) c.as_slice-3.ensures.value in
    straightened bs c.in_ok-straight.straight.items finals entry c.target_of-begin.result (graph_in c.new.result) final begins led c.new.ensures.blocks c.new.ensures.begins
