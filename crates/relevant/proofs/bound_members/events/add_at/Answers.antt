use Rattle.relevant.proofs.BoundMembers.Binding.{at-added}
use Rattle.relevant.proofs.bound_members.events.add_at.Goals as goal
use Rattle.relevant.proofs.RelevantObjects.Gathered.{if-ok}

pub returns : goal.returns
returns c =
    if-ok _ _ c.add_members.result
    (λ u e m depth f h is. at-added c.args.sources m depth c.args.number f h c.in_ok-objects.objects.items c.args.found.now.items c.add_members.new.found.items (c.in_ok-objects.ensures m depth h f is) e)
    c.add_members.ensures
