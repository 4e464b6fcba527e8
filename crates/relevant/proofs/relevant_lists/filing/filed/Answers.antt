use Rattle.std.proofs.Common.{map, ◌∙◌}
use Rattle.relevant.proofs.RelevantLists.ByFunction.{filed-next, filed-all, items-count}
use Rattle.relevant.proofs.relevant_lists.filing.filed.Goals as goal

pub loop-member-preserved : goal.loop-member-preserved
loop-member-preserved c =
    let at = c.loop-member in
    record {
      count = items-count at.lists.items c.file_member.new.lists.items c.member-item.result.0 c.member-item.result.1 c.in_ok-file_member.ensures ∙ at.invariant.count;
      filed = filed-next c.args.members.now at.member-index c.member-item.result (map (λ os. os.items) at.lists.items) (map (λ os. os.items) c.file_member.new.lists.items)
          c.loop-member-test.true c.member-item.is c.in_ok-file_member.ensures at.invariant.filed;
    }

pub returns-clause-filed : goal.returns-clause-filed
returns-clause-filed c = filed-all c.args.members.now c.loop-member.member-index (map (λ os. os.items) c.loop-member.lists.items) c.loop-member-test.false c.loop-member.invariant.filed
