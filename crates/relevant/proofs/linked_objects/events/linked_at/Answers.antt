use Rattle.std.proofs.Common.{◌∙◌}
use Rattle.flow_graph.specs.Values.{event_of}
use Rattle.relevant.proofs.LinkedObjects.Linking.{targets-linked}
use Rattle.relevant.proofs.linked_objects.events.linked_at.Goals as goal
use Rattle.objects.specs.Units.{facts_in}

pub returns : goal.returns
returns c =
    targets-linked (facts_in c.args.unit.now) c.args.depth c.args.object.now (event_of c.args.event.now) c.in_ok-found.found.items c.add.new.found.items c.named-source.result
    c.in_ok-found.ensures (c.named-source.ensures ∙ c.source_before.ensures) c.in_ok-add.ensures
