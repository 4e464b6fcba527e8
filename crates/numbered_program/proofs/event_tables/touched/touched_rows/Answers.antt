use Rattle.std.proofs.Common.{sym, ap, ◌∙◌}
use Rattle.block_flows.proofs.TupleFlows.Lists.{if-ok}
use Rattle.numbered_program.proofs.EventTables.Numbered.{rows_written, rows_unwritten}
use Rattle.numbered_program.specs.EventTables.Touched.{touched_with}
use Rattle.flow_graph.specs.Values.{event_of}
use Rattle.objects.specs.Units.{facts_in}
use Rattle.path_model.specs.CheckerModel.Moves.{move_of}
use Rattle.std.specs.List.{filter_map}
use Rattle.type_values.specs.Vars.{cvar_of}
use Rattle.numbered_program.proofs.event_tables.touched.touched_rows.Goals as goal

pub returns-in-Some : goal.returns-in-Some
returns-in-Some c =
    let followed = c.args.numbering.now.objects.now.keys in
    let m = move_of (facts_in c.args.unit.now) c.args.depth (event_of c.args.event.now) in
    let v = cvar_of c.in-Some.v in
    if-ok _ _ c.touched_among.result
    (λ rows made index are. made ∙ ap (filter_map (touched_with c.args.depth m followed)) (c.with.ensures ∙ index v) ∙ rows_written c.args.depth followed are m v c.args.index.now c.in-Some.ensures)
    c.touched_among.ensures

pub returns-in-None : goal.returns-in-None
returns-in-None c = λ index are.
    let followed = c.args.numbering.now.objects.now.keys in
    c.new.ensures.items ∙ sym (rows_unwritten c.args.depth followed are (move_of (facts_in c.args.unit.now) c.args.depth (event_of c.args.event.now)) c.in-None.ensures)
