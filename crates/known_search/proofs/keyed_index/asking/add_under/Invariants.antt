use Rattle.std.proofs.Common.{take}
use Rattle.least_set.specs.Indexes.{at}
use Rattle.least_set.specs.Logs.{Adds, SomeGives}
use Rattle.known_search.specs.KeyedIndex.Filed.{GivesAt}
use Rattle.known_search.proofs.keyed_index.asking.add_under.Given as goal

-- what the changes under the keys that were gone through give
abbrev pub invariant-loop-key : goal.invariant-loop-key
invariant-loop-key g l = Adds (SomeGives (λ k. SomeGives (GivesAt (g.F.Filing.gives l.filed.filing.now) l.filed.changes.now l.thing) (at g.F.Key.PartialEq.eq l.filed.lists k)) (take l.key-index l.keys)) l.fn.found.items l.found.items
