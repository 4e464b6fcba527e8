use Rattle.std.proofs.Common.{◌++◌, ◌+◌, [], ap, ◌∙◌}
use Rattle.c_objects.specs.Objects.{path}
use Rattle.numbered_program.proofs.EventTables.Variables.{objects_more, objects_all}
use Rattle.numbered_program.specs.EventTables.ObjectIndex.{has_variable, numbers_at, numbers_from, one_if}
use Rattle.least_set.specs.Indexes.{items_of}
use Rattle.objects.specs.Equality.{same_object}
use Rattle.std.specs.Map.{lookup}
use Rattle.numbered_program.proofs.event_tables.object_index.by_variable.Goals as goal

pub loop-place-init : goal.loop-place-init
loop-place-init c = λ v. ap (λ l. items_of (lookup (same_object (path v [])) l)) c.new-numbers.ensures.empty

pub loop-place-preserved : goal.loop-place-preserved
loop-place-preserved c = λ v.
    let at = c.loop-place in
    objects_more (has_variable v) c.as_slice-objects.result.now at.place c.index-objects-place.result (numbers_at at.numbers v) (numbers_at c.add_object.new.numbers v) c.loop-place-test.true (at.invariant v)
    (c.in_ok-add_object.ensures v ∙ ap (λ o. numbers_at at.numbers v ++ one_if (has_variable v o) (at.place + 1)) c.index-objects-place.is)

pub returns : goal.returns
returns c = λ v.
    ap (λ l. items_of (lookup (same_object (path v [])) l)) c.shrink_to_fit.ensures.entries
    ∙ objects_all (has_variable v) c.as_slice-objects.result.now c.loop-place.place (numbers_at c.loop-place.numbers v) c.loop-place-test.false (c.loop-place.invariant v)
    ∙ ap (numbers_from (has_variable v) 1) c.as_slice-objects.ensures.keys
