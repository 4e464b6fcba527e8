use Rattle.std.proofs.Common.{◌≡◌, ◌++◌, drop, map}
use Rattle.unit_typing.specs.Statics.{statics_in}
use Rattle.unit_typing.specs.Views.{name_entry}
use Rattle.unit_typing.proofs.statics.Statics.add.Given as goal

-- the names so far, and then those of the entries that are left
abbrev pub invariant-loop-entry : goal.invariant-loop-entry
invariant-loop-entry l = l.self-inside.names ++ statics_in (map name_entry (drop l.entry-index l.entries)) ≡ l.fn.self ++ statics_in (map name_entry l.entries)
