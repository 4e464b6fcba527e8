use Rattle.std.proofs.Common.{◌≡◌, length, map, take}
use Rattle.relevant.proofs.relevant_lists.filing.filed.Given as goal
use Rattle.relevant.specs.RelevantLists.Filed.{AreFiled}

-- the members before this one are filed
abbrev pub invariant-loop-member : goal.invariant-loop-member
invariant-loop-member l = record {
  count : length l.lists.items ≡ l.count;
  filed : AreFiled (take l.member-index l.members) (map (λ os. os.items) l.lists.items);
}
