use Rattle.std.proofs.Common.{take}
use Rattle.least_set.specs.Indexes.{at}
use Rattle.known_search.specs.KeyedIndex.Filed.{AreFiled}
use Rattle.known_search.proofs.keyed_index.filing.file.Given as goal

-- the changes that were gone through are filed
abbrev pub invariant-loop-position : goal.invariant-loop-position
invariant-loop-position g l = AreFiled g.F.Key.PartialEq.eq (g.F.Filing.key_of l.filing) (take l.position l.changes) (at g.F.Key.PartialEq.eq l.lists)
