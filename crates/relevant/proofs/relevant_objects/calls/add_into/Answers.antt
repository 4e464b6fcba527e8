use Rattle.relevant.proofs.RelevantObjects.Adding.{into-added}
use Rattle.relevant.proofs.RelevantObjects.Gathered.{if-ok}
use Rattle.relevant.proofs.relevant_objects.calls.add_into.Goals as goal

pub returns : goal.returns
returns c =
    if-ok _ _ c.add_members.result
    (λ u e. into-added c.args.depth c.args.member.now c.args.call.now c.in_ok-objects.objects.items c.args.found.now.items c.add_members.new.found.items c.if-call-member.false c.in_ok-objects.ensures e)
    c.add_members.ensures
