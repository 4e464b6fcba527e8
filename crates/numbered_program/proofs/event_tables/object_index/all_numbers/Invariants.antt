use Rattle.std.proofs.Common.{◌≡◌, take}
use Rattle.numbered_program.specs.EventTables.ObjectIndex.{any, numbers_from}
use Rattle.numbered_program.proofs.event_tables.object_index.all_numbers.Given as goal

-- those of the objects that were passed
abbrev pub invariant-loop-place : goal.invariant-loop-place
invariant-loop-place l = l.list.items ≡ numbers_from any 1 (take l.place l.objects)
