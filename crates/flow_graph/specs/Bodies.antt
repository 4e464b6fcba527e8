-- What is promised of the graph of a function.
use Rattle.std.specs.Prelude.{◌≡◌, ◌↔◌, ◌⊎◌, List}
use Rattle.flow_graph.specs.CPaths.Events.{Item, exited}
use Rattle.flow_graph.specs.CPaths.Facts.{Facts}
use Rattle.flow_graph.specs.CPaths.TreeFlow.{flow_of}
use Rattle.flow_graph.specs.CPaths.Traces.{Definition, Trace}
use Rattle.flow_graph.specs.CPaths.Graphs.{GraphTrace}
use Rattle.flow_graph.specs.CPaths.Occurrences.{InFlow, InGraph}
use Rattle.flow_graph.specs.CPaths.Building.{Graph}

-- it has exactly the traces of the function
abbrev pub HasTraces : Graph → Facts → Definition → Type 0
HasTraces g F d = (l : List Item) → Trace F d l ↔ GraphTrace g.blocks g.entry l

-- what stands in it stands in the function's text, or is the exit at its closing brace
abbrev pub StandsInText : Graph → Facts → Definition → Type 0
StandsInText g F d = (i : Item) → InGraph i g.blocks → InFlow i (flow_of F d.place d.body) ⊎ (i ≡ exited d.place d.close)
