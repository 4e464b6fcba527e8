use Rattle.std.proofs.Common.{◌≡◌, length, [], nat_eq}
use Rattle.indexmap.specs.IndexMap.{get}
use Rattle.c_grammar.specs.NameChanges.{saved_of, onto, IsKept}
use Rattle.c_grammar.proofs.type_names.TypeNames.close.Given as goal

abbrev pub invariant-loop-change : goal.invariant-loop-change
invariant-loop-change l = record {
  saved : l.fn.self.saved ≡ saved_of (onto l.self-inside.log.items []);
  kept : IsKept (get nat_eq l.self-inside.current) (onto l.self-inside.log.items []);
}

abbrev pub decreases-loop-change : goal.decreases-loop-change
decreases-loop-change l = length l.self-inside.log.items
