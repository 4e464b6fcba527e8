use Rattle.std.proofs.Common.{ℕ, List, take}
use Rattle.block_flows.specs.Events.{AreOfEvents}
use Rattle.block_flows.specs.TupleFlows.Moved.{AreObjects}
use Rattle.numbered_program.specs.EventTables.ObjectIndex.{IsIndexOf}
use Rattle.numbered_program.specs.EventTables.Rows.{AreEventRows}
use Rattle.metal_tree.specs.MetalMachines.Machine.{Machine}
use Rattle.path_model.specs.CheckerModel.Happenings.{Function, Happening}
use Rattle.numbered_program.proofs.event_tables.rows.event_rows.Given as goal

-- the rows of the events that were passed
abbrev pub invariant-loop-event : goal.invariant-loop-event
invariant-loop-event l = (m : Machine) (depth : ℕ) (hs : List Happening) (f : Function) → AreOfEvents m depth f hs l.rules → IsIndexOf l.numbering.objects.now.keys l.index
    → AreObjects depth l.numbering.objects.now.keys → AreEventRows m depth f l.numbering.objects.now.keys l.numbering.states.now.states.keys (take l.event-index hs) l.rows.items
