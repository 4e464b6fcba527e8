use Rattle.std.proofs.Common.{◌≡◌, map, take}
use Rattle.numbered_program.specs.EventTables.Alternatives.{fired_row}
use Rattle.flow_graph.specs.Values.{event_of}
use Rattle.hole_matcher.specs.HoleBindings.Settings.{setting_in}
use Rattle.numbered_program.proofs.event_tables.alternatives.rows_of.Given as goal

-- those of the alternatives that were passed
abbrev pub invariant-loop-fired : goal.invariant-loop-fired
invariant-loop-fired l = l.rows.items ≡ map (fired_row l.numbering.objects.now.keys l.numbering.states.now.states.keys (setting_in l.rules.setting) (event_of l.rules.event)) (take l.fired-index l.applied)
