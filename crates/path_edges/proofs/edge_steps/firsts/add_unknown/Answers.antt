use Rattle.std.proofs.Common.{◌∙◌, ap}
use Rattle.path_edges.specs.EdgeSteps.Steps.{first_edge, unknown_at}
use Rattle.path_edges.proofs.EdgeSteps.Lists.{mapped-next}
use Rattle.path_edges.proofs.edge_steps.firsts.add_unknown.Goals as goal

pub loop-object-preserved : goal.loop-object-preserved
loop-object-preserved c =
    mapped-next (λ o. first_edge c.args.function c.args.block (unknown_at o)) c.args.objects.now c.loop-object.object-index c.object-item.result c.args.edges.now.items c.loop-object.edges.items c.push.new.self.items c.first_edge.result
    c.loop-object-test.true c.object-item.is c.loop-object.invariant c.in_ok-push.ensures.items (c.first_edge.ensures ∙ ap (first_edge c.args.function c.args.block) c.unknown.ensures)
