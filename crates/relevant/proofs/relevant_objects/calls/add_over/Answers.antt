use Rattle.relevant.proofs.RelevantObjects.Adding.{over-added}
use Rattle.relevant.proofs.RelevantObjects.Gathered.{if-ok}
use Rattle.relevant.proofs.relevant_objects.calls.add_over.Goals as goal

pub returns : goal.returns
returns c =
    if-ok _ _ c.add_back.result
    (λ u w. over-added c.args.depth c.args.member.now c.args.call.now c.args.found.now.items c.add_into.new.found.items c.add_back.new.found.items c.in_ok-add_into.ensures w)
    c.add_back.ensures
