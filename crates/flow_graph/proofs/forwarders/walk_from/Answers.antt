use Rattle.std.proofs.Common.{◌≡◌, sym, subst}
use Rattle.flow_graph.specs.Finals.{AllComeTo}
use Rattle.flow_graph.specs.Values.{blocks_of}
use Rattle.flow_graph.proofs.FinalWays.{one_more}
use Rattle.flow_graph.proofs.forwarders.walk_from.Goals as goal

pub loop-turn-preserved : goal.loop-turn-preserved
loop-turn-preserved c =
    let at = c.loop-turn in
    let g = blocks_of c.args.blocks.now in
    subst (AllComeTo g c.in-Some.next) (sym c.in_ok-push.ensures.items) (one_more g at.passed.items at.end c.in-Some.next at.invariant c.in-Some.ensures.forwards)
