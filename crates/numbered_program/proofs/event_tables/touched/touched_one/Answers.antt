use Rattle.std.proofs.Common.{◌∙◌, sym, ap}
use Rattle.numbered_program.proofs.EventTables.Untouched.{row_of_none, row_of_itself, row_of_some}
use Rattle.flow_graph.specs.Values.{event_of}
use Rattle.objects.specs.Origins.{origin_of}
use Rattle.objects.specs.Units.{facts_in}
use Rattle.path_model.specs.CheckerModel.Moves.{move_of}
use Rattle.numbered_program.proofs.event_tables.touched.touched_one.Goals as goal

pub returns-in-Same : goal.returns-in-Same
returns-in-Same c = λ there.
    let o = c.args.object.now in
    row_of_itself c.args.depth (move_of (facts_in c.args.unit.now) c.args.depth (event_of c.args.event.now)) c.args.numbering.now.objects.now.keys c.args.number o there
    (sym c.source_before.ensures ∙ ap (origin_of o) c.in-Same.is)

pub returns-in-From : goal.returns-in-From
returns-in-From c = λ there.
    let o = c.args.object.now in
    c.touched_from.ensures
    ∙ row_of_some c.args.depth (move_of (facts_in c.args.unit.now) c.args.depth (event_of c.args.event.now)) c.args.numbering.now.objects.now.keys c.args.number o there
    c.in-From.source (sym c.source_before.ensures ∙ ap (origin_of o) c.in-From.is)

pub returns-in-Nothing : goal.returns-in-Nothing
returns-in-Nothing c = λ there.
    let o = c.args.object.now in
    row_of_none c.args.depth (move_of (facts_in c.args.unit.now) c.args.depth (event_of c.args.event.now)) c.args.numbering.now.objects.now.keys c.args.number o there
    (sym c.source_before.ensures ∙ ap (origin_of o) c.in-Nothing.is)
