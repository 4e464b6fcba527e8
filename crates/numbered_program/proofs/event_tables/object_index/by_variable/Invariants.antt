use Rattle.std.proofs.Common.{◌≡◌, take}
use Rattle.numbered_program.specs.EventTables.ObjectIndex.{has_variable, numbers_at, numbers_from}
use Rattle.type_rules.specs.Vars.{CVar}
use Rattle.numbered_program.proofs.event_tables.object_index.by_variable.Given as goal

-- those of the objects that were passed
abbrev pub invariant-loop-place : goal.invariant-loop-place
invariant-loop-place l = (v : CVar) → numbers_at l.numbers v ≡ numbers_from (has_variable v) 1 (take l.place l.objects)
