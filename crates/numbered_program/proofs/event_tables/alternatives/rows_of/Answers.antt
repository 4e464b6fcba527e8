use Rattle.block_flows.proofs.TupleFlows.Lists.{mapped-next}
use Rattle.numbered_program.specs.EventTables.Alternatives.{fired_row}
use Rattle.flow_graph.specs.Values.{event_of}
use Rattle.hole_matcher.specs.HoleBindings.Settings.{setting_in}
use Rattle.numbered_program.proofs.event_tables.alternatives.rows_of.Goals as goal

pub loop-fired-preserved : goal.loop-fired-preserved
loop-fired-preserved c =
    let n = c.args.numbering.now in
    let r = c.args.rules.now in
    mapped-next (fired_row n.objects.now.keys n.states.now.states.keys (setting_in r.setting) (event_of r.event)) c.args.applied.now c.loop-fired.fired-index c.fired-item.result c.loop-fired.rows.items c.push.new.self.items
    c.alternative_row.result c.loop-fired-test.true c.fired-item.is c.loop-fired.invariant c.in_ok-push.ensures.items c.alternative_row.ensures
