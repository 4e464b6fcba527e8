-- What the types of the program stand for: events, blocks and drafts as plain values.
use Rattle.std.specs.Prelude.{ℕ, List, map}
use Rattle.c_tree.specs.Views.{node_of}
use Rattle.flow_graph.specs.CPaths.Events as events
use Rattle.c_tree.specs.PathSubjects.Values.{subject_of}
use Rattle.flow_graph.specs.CPaths.Graphs as graphs
use Rattle.flow_graph.specs.CPaths.Fragments as ways
use Rattle.flow_graph.specs.CPaths.Building as building
use Rattle.flow_graph.specs.declared.event.Variable.{Variable}
use Rattle.flow_graph.specs.declared.event.Event.{Event}
use Rattle.flow_graph.specs.declared.event.Event.TheVariants as event
use Rattle.flow_graph.specs.declared.graph.End.{End}
use Rattle.flow_graph.specs.declared.graph.End.TheVariants as end
use Rattle.flow_graph.specs.declared.graph.Block.{Block}
use Rattle.flow_graph.specs.declared.draft.DraftEnd.{DraftEnd}
use Rattle.flow_graph.specs.declared.draft.DraftEnd.TheVariants as drafted
use Rattle.flow_graph.specs.declared.draft.Draft.{Draft}
use Rattle.flow_graph.specs.declared.draft.Way.{Way}
use Rattle.flow_graph.specs.declared.draft.Way.TheVariants as way

abbrev pub variable_in : Variable → events.Variable
variable_in x = record { place = x.place; name = x.name }

abbrev pub event_of : Event → events.Event
event_of (event.Node s) = events.Evaluated (subject_of s)
event_of (event.Declare x) = events.Declared (variable_in x)
event_of (event.Branch t truth) = events.Branched (node_of t.now) truth
event_of (event.Exit function place) = events.Exited function place

abbrev pub ending_of : End → graphs.Ending
ending_of (end.Goto targets) = graphs.ToAny targets.items
ending_of (end.Call site next) = graphs.Calls (node_of site.now) next
ending_of end.Exit = graphs.Stops

abbrev pub block_of : Block → graphs.Block
block_of b = record { events = map event_of b.events.items; ending = ending_of b.end }

abbrev pub blocks_of : List Block → List graphs.Block
blocks_of bs = map block_of bs

abbrev pub sketch_of : DraftEnd → building.Sketch
sketch_of (drafted.Known e) = building.Settled (ending_of e)
sketch_of (drafted.Label name) = building.Jumps name
sketch_of drafted.Open = building.Waits

abbrev pub draft_of : Draft → building.Draft
draft_of d = record { events = map event_of d.events.items; ending = sketch_of d.end }

abbrev pub drafts_of : List Draft → List building.Draft
drafts_of ds = map draft_of ds

abbrev pub way_of : Way → ways.Way
way_of (way.To next) = ways.To next
way_of (way.ToEither holds fails) = ways.ToEither holds fails

-- the way of a condition that holds where another one, which has this way, fails
abbrev pub turned : ways.Way → ways.Way
turned (ways.To next) = ways.To next
turned (ways.ToEither holds fails) = ways.ToEither fails holds

-- the blocks so far, and the one where what was built begins
abbrev pub made : List Draft → ℕ → building.Made
made ds b = record { drafts = drafts_of ds; block = b }
