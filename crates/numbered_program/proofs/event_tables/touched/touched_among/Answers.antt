use Rattle.std.proofs.Common.{◌≡◌, sym}
use Rattle.numbered_program.proofs.EventTables.Numbered.{filtered_more, filtered_past}
use Rattle.numbered_program.specs.EventTables.Touched.{touched_with}
use Rattle.flow_graph.specs.Values.{event_of}
use Rattle.least_set.proofs.Growing.{all_of}
use Rattle.objects.specs.Units.{facts_in}
use Rattle.path_model.specs.CheckerModel.Moves.{move_of}
use Rattle.std.specs.List.{filter_map}
use Rattle.numbered_program.proofs.event_tables.touched.touched_among.Goals as goal

pub loop-number-preserved-in_default : goal.loop-number-preserved-in_default
loop-number-preserved-in_default c =
    let W = touched_with c.args.depth (move_of (facts_in c.args.unit.now) c.args.depth (event_of c.args.event.now)) c.args.numbering.now.objects.now.keys in
    filtered_past W c.args.numbers.now c.loop-number.number-index 0 c.loop-number.rows.items c.loop-number-test.true c.loop-number.invariant (sym c.in_default.ensures)

pub loop-number-preserved : goal.loop-number-preserved
loop-number-preserved c =
    let W = touched_with c.args.depth (move_of (facts_in c.args.unit.now) c.args.depth (event_of c.args.event.now)) c.args.numbering.now.objects.now.keys in
    filtered_more W c.args.numbers.now c.loop-number.number-index 0 c.loop-number.rows.items c.loop-number-test.true c.loop-number.invariant c.in-Some.row c.push.new.self.items (sym c.in-Some.ensures) c.in_ok-push.ensures.items

pub returns : goal.returns
returns c =
    let W = touched_with c.args.depth (move_of (facts_in c.args.unit.now) c.args.depth (event_of c.args.event.now)) c.args.numbering.now.objects.now.keys in
    all_of (λ l. c.loop-number.rows.items ≡ filter_map W l) c.args.numbers.now c.loop-number.number-index c.loop-number-test.false c.loop-number.auto.number-index-end c.loop-number.invariant
