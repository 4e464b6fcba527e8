use Rattle.std.proofs.Common.{◌≡◌, ◌++◌, take}
use Rattle.unit_typing.proofs.entries.Entries.push_all.Given as goal

abbrev pub invariant-loop-entry : goal.invariant-loop-entry
invariant-loop-entry g l = l.self ≡ l.fn.self ++ take l.entry-index l.entries
