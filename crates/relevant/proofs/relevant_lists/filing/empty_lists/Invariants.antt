use Rattle.std.proofs.Common.{◌≡◌, [], map, replicate}
use Rattle.relevant.proofs.relevant_lists.filing.empty_lists.Given as goal

-- as many lists as turns
abbrev pub invariant-loop : goal.invariant-loop
invariant-loop l = map (λ os. os.items) l.lists.items ≡ replicate l.counter []
