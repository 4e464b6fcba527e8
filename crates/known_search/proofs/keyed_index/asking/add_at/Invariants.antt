use Rattle.std.proofs.Common.{take}
use Rattle.least_set.specs.Logs.{Adds, SomeGives}
use Rattle.known_search.specs.KeyedIndex.Filed.{GivesAt}
use Rattle.known_search.proofs.keyed_index.asking.add_at.Given as goal

-- what the changes at the positions that were gone through give
abbrev pub invariant-loop-position : goal.invariant-loop-position
invariant-loop-position g l = Adds (SomeGives (GivesAt (g.F.Filing.gives l.filing) l.changes l.thing) (take l.position-index l.positions)) l.fn.found.items l.found.items
