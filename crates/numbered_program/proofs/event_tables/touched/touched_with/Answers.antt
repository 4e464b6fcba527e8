use Rattle.std.proofs.Common.{ap, ◌∙◌}
use Rattle.numbered_program.proofs.EventTables.Numbered.{numbered_in}
use Rattle.numbered_program.specs.EventTables.Touched.{touched_at}
use Rattle.flow_graph.specs.Values.{event_of}
use Rattle.objects.specs.Units.{facts_in}
use Rattle.path_model.specs.CheckerModel.Moves.{move_of}
use Rattle.type_rules.specs.Options.{◌>?◌}
use Rattle.numbered_program.proofs.event_tables.touched.touched_with.Goals as goal

pub returns-in-Some : goal.returns-in-Some
returns-in-Some c =
    let followed = c.args.numbering.now.objects.now.keys in
    let m = move_of (facts_in c.args.unit.now) c.args.depth (event_of c.args.event.now) in
    c.touched_one.ensures (numbered_in followed c.args.number c.in-Some.object.now c.in-Some.ensures)
    ∙ ap (λ z. z >? λ o. touched_at c.args.depth m followed (c.args.number, o)) c.in-Some.ensures

pub returns-in-None : goal.returns-in-None
returns-in-None c =
    let followed = c.args.numbering.now.objects.now.keys in
    let m = move_of (facts_in c.args.unit.now) c.args.depth (event_of c.args.event.now) in
    ap (λ z. z >? λ o. touched_at c.args.depth m followed (c.args.number, o)) c.in-None.ensures
