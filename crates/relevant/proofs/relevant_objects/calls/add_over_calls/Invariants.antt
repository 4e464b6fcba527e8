use Rattle.std.proofs.Common.{take}
use Rattle.least_set.specs.Logs.{Adds, SomeGives}
use Rattle.relevant.specs.RelevantObjects.Links.{LinksOver}
use Rattle.relevant.proofs.relevant_objects.calls.add_over_calls.Given as goal

-- what the calls before this one link to was put behind
abbrev pub invariant-loop-call : goal.invariant-loop-call
invariant-loop-call l = Adds (SomeGives (LinksOver l.depth l.member) (take l.call-index l.call-items)) l.fn.found.items l.found.items
