use Rattle.std.proofs.Common.{map, ap, ◌∙◌}
use Rattle.block_flows.proofs.TupleFlows.Lists.{if-ok}
use Rattle.numbered_program.specs.EventTables.Alternatives.{fired_row}
use Rattle.flow_graph.specs.Values.{event_of}
use Rattle.hole_matcher.specs.HoleBindings.Settings.{setting_in}
use Rattle.numbered_program.proofs.event_tables.alternatives.alternative_rows.Goals as goal

pub returns : goal.returns
returns c =
    let n = c.args.numbering.now in
    let r = c.args.rules.now in
    if-ok _ _ c.rows_of.result
    (λ rows made. made ∙ ap (map (fired_row n.objects.now.keys n.states.now.states.keys (setting_in r.setting) (event_of r.event))) c.as_slice.ensures.value)
    c.rows_of.ensures
