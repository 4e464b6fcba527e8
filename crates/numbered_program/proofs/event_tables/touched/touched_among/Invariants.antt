use Rattle.std.proofs.Common.{◌≡◌, take}
use Rattle.numbered_program.specs.EventTables.Touched.{touched_with}
use Rattle.flow_graph.specs.Values.{event_of}
use Rattle.objects.specs.Units.{facts_in}
use Rattle.path_model.specs.CheckerModel.Moves.{move_of}
use Rattle.std.specs.List.{filter_map}
use Rattle.numbered_program.proofs.event_tables.touched.touched_among.Given as goal

-- the rows of the objects that were passed
abbrev pub invariant-loop-number : goal.invariant-loop-number
invariant-loop-number l = l.rows.items ≡ filter_map (touched_with l.depth (move_of (facts_in l.unit) l.depth (event_of l.event)) l.numbering.objects.now.keys) (take l.number-index l.numbers)
