use Rattle.std.proofs.Common.{◌≡◌, length, map, take}
use Rattle.unit_typing.proofs.entries.Entries.cut.Given as goal

abbrev pub invariant-loop-self : goal.invariant-loop-self
invariant-loop-self g l = record {
  named : l.self-inside.names ≡ map g.T.Named.name_of l.self-inside.all.items;
  front : take l.len l.self-inside.all.items ≡ take l.len l.fn.self;
}

abbrev pub decreases-loop-self : goal.decreases-loop-self
decreases-loop-self g l = length l.self-inside.all.items
