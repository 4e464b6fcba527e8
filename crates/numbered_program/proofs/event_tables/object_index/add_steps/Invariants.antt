use Rattle.std.proofs.Common.{◌≡◌, ◌++◌, ◌&&◌, not, take}
use Rattle.c_objects.specs.Objects.{is_indexed_by, same_var}
use Rattle.numbered_program.specs.EventTables.ObjectIndex.{numbers_at, one_if}
use Rattle.objects.specs.Selectors.{selectors_of}
use Rattle.type_rules.specs.Vars.{CVar}
use Rattle.type_values.specs.Vars.{cvar_of}
use Rattle.numbered_program.proofs.event_tables.object_index.add_steps.Given as goal

-- the number stands under the indices that were passed, but under the base
abbrev pub invariant-loop-count : goal.invariant-loop-count
invariant-loop-count l = (v : CVar) → numbers_at l.numbers v ≡ numbers_at l.initial.numbers v ++ one_if (not (same_var (cvar_of l.base) v) && is_indexed_by (selectors_of (take l.count l.steps)) v) l.number
