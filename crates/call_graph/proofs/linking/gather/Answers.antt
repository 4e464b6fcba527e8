use Rattle.std.proofs.Common.{◌+◌, ◌<◌, [], length, map, drop, arith}
use Rattle.std.proofs.lemmas.Grind.{common_steps}
use Rattle.call_graph.specs.Faults.{IsRepeat}
use Rattle.call_graph.proofs.Linked.{passes, repeat-among, room-for-unit, unit-at}
use Rattle.call_graph.specs.OfPrograms.Definitions.{defined_by, kept_in}
use Rattle.call_graph.specs.OfPrograms.Repeats.{first_repeat}
use Rattle.typed_unit.specs.Functions.{function_of}
use Rattle.call_graph.proofs.linking.gather.Goals as goal

pub add_unit-requires : goal.add_unit-requires
add_unit-requires c =
    let units = c.args.units.now.items in
    let i = c.loop-i.i in
    let within : i < length units = grind (arith, common_steps) in
    room-for-unit c.loop-i.functions.all.items c.index.result.now.now.functions.items (kept_in (drop i units)) (kept_in (drop (i + 1) units)) (kept_in units) _
    (unit-at units i c.index.result.now within c.index.ensures) c.loop-i.invariant.kept c.requires

pub returns-in_err-add_unit-clause-repeated : goal.returns-in_err-add_unit-clause-repeated
returns-in_err-add_unit-clause-repeated c =
    let units = c.args.units.now.items in
    let i = c.loop-i.i in
    let within : i < length units = grind (arith, common_steps) in
    let next = kept_in (drop (i + 1) units) in
    passes c.from_residual.result c.in_err-add_unit.field-0.0 (λ e. IsRepeat e (first_repeat [] (kept_in units))) c.from_residual.ensures.1
    (repeat-among c.in_err-add_unit.field-0.0 (first_repeat [] (kept_in units)) (defined_by c.loop-i.functions.all.items) (map function_of c.index.result.now.now.functions.items) (kept_in (drop i units)) next
    c.loop-i.invariant.goes_on (unit-at units i c.index.result.now within c.index.ensures) (c.in_err-add_unit.ensures.repeated next))
