use Rattle.std.proofs.Common.{◌∷◌, [], ◌++◌, ◌∙◌, ap}
use Rattle.relevant.proofs.RelevantLists.ByFunction.{written-over, past-all}
use Rattle.relevant.proofs.relevant_lists.filing.file_member.Goals as goal

pub returns-in_ok-push : goal.returns-in_ok-push
returns-in_ok-push c =
    written-over c.args.lists.now.items c.args.member.now.0 c.args.member.now.1 c.in-Some.list.now c.push.new.self c.in-Some.ensures.item.3.0 c.in-Some.ensures.value
    (c.in_ok-push.ensures.items ∙ ap (λ o. c.in-Some.list.now.items ++ (o ∷ [])) c.copy.ensures)

pub returns-in_default : goal.returns-in_default
returns-in_default c = past-all c.args.lists.now.items c.args.member.now.0 c.args.member.now.1 c.in_default.ensures.item.3
