use Rattle.flow_graph.specs.Values.{event_of}
use Rattle.relevant.specs.LinkedObjects.Linked.{AreLinkedAt}
use Rattle.objects.specs.Units.{facts_in}
use Rattle.relevant.proofs.RelevantObjects.Adding.{members-added}
use Rattle.relevant.proofs.RelevantObjects.Gathered.{if-ok}
use Rattle.relevant.proofs.relevant_objects.events.add_at.Goals as goal

pub returns : goal.returns
returns c =
    let x = c.args.member.now in
    if-ok _ _ c.add_members.result
    (λ u e. members-added (AreLinkedAt (facts_in c.args.unit.now) c.args.depth x.1 (event_of c.args.event.now)) x.0 c.in_ok-objects.objects.items c.args.found.now.items c.add_members.new.found.items c.in_ok-objects.ensures e)
    c.add_members.ensures
