use Rattle.std.proofs.Common.{ap, ◌∙◌}
use Rattle.numbered_program.proofs.EventTables.Variables.{objects_more, objects_all}
use Rattle.numbered_program.specs.EventTables.ObjectIndex.{any, numbers_from}
use Rattle.numbered_program.proofs.event_tables.object_index.all_numbers.Goals as goal

pub loop-place-preserved : goal.loop-place-preserved
loop-place-preserved c =
    let at = c.loop-place in
    objects_more any c.as_slice-objects.result.now at.place c.index-objects-place.result at.list.items c.push.new.self.items c.loop-place-test.true at.invariant c.in_ok-push.ensures.items

pub returns : goal.returns
returns c =
    objects_all any c.as_slice-objects.result.now c.loop-place.place c.loop-place.list.items c.loop-place-test.false c.loop-place.invariant
    ∙ ap (numbers_from any 1) c.as_slice-objects.ensures.keys
