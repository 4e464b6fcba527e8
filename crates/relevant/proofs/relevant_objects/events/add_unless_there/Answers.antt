use Rattle.std.proofs.Common.{◌∙◌, sym}
use Rattle.relevant.proofs.RelevantObjects.Staying.{at-rest}
use Rattle.relevant.proofs.relevant_objects.events.add_unless_there.Goals as goal

pub returns-clause-adds : goal.returns-clause-adds
returns-clause-adds c =
    at-rest c.args.depth c.args.unit.now c.args.member.now c.args.event.now c.args.found.now.items c.add_itself.new.found.items
    (sym c.is_move.ensures ∙ c.if-is_move.false) c.in_ok-add_itself.ensures
