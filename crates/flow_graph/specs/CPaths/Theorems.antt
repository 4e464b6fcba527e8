-- The theorems on traces as statements, which contracts can name.
use Rattle.std.specs.Prelude.{◌≡◌, ◌↔◌, ◌⊎◌, ℕ, true, List, [], ◌∷◌, ◌++◌, map, slice_set}
use Rattle.flow_graph.specs.CPaths.Events.{Event, Item, exited}
use Rattle.flow_graph.specs.CPaths.Facts.{Facts}
use Rattle.flow_graph.specs.CPaths.Flow.{Flow}
use Rattle.flow_graph.specs.CPaths.TreeFlow.{flow_of}
use Rattle.flow_graph.specs.CPaths.Occurrences.{InFlow, InGraph}
use Rattle.flow_graph.specs.CPaths.Traces.{BodyTrace, Definition, Trace}
use Rattle.flow_graph.specs.CPaths.Listing.{longest_traces, finishes_within, Begins}
use Rattle.flow_graph.specs.CPaths.Graphs.{Block, Ending, ToAny, GraphTrace}
use Rattle.flow_graph.specs.CPaths.Fragments.{Has}
use Rattle.flow_graph.specs.CPaths.Forwarders.{ComesTo, redirected}
use Rattle.flow_graph.specs.CPaths.Layout.{IsGraphOf}
use Rattle.flow_graph.specs.CPaths.SoundGraphs.{IsSoundGraph}
use Rattle.flow_graph.specs.CPaths.Building.{graph_of}

-- what is listed are traces
abbrev pub ListedAreTraces : Type 0
ListedAreTraces = (F : Facts) (d : Definition) (n : ℕ) (l : List Item) → Begins l (longest_traces F d n) → Trace F d l

-- a function that can't make more steps has no other traces
abbrev pub FinishedListsAreAll : Type 0
FinishedListsAreAll = (F : Facts) (d : Definition) (n : ℕ) → finishes_within F d n ≡ true
    → (l : List Item) → Trace F d l ↔ Begins l (longest_traces F d n)

-- a graph that has the blocks of a body has exactly its traces
abbrev pub GraphsHaveTheTraces : Type 0
GraphsHaveTheTraces = (g : List Block) (body : Flow) (exit : Event) (entry : ℕ) → IsGraphOf g body exit entry
    → (l : List Item) → BodyTrace body exit l ↔ GraphTrace g entry l

-- so has the graph that the plain builder makes of a function
abbrev pub BuiltGraphsHaveTheTraces : Type 0
BuiltGraphsHaveTheTraces = (F : Facts) (d : Definition) (l : List Item)
    → Trace F d l ↔ GraphTrace (graph_of F d).blocks (graph_of F d).entry l

-- it names only its own blocks, and each exit has a block of its own
abbrev pub BuiltGraphsAreSound : Type 0
BuiltGraphsAreSound = (F : Facts) (d : Definition) → IsSoundGraph (graph_of F d).blocks (graph_of F d).entry

-- what stands in it stands in the function, or is the exit at its closing brace
abbrev pub BuiltGraphsStandInTheText : Type 0
BuiltGraphsStandInTheText = (F : Facts) (d : Definition) (i : Item) → InGraph i (graph_of F d).blocks
    → InFlow i (flow_of F d.place d.body) ⊎ (i ≡ exited d.place d.close)

-- a block that leads to one other may have that block's events and end as its own
abbrev pub JoinedBlocksKeepTheTraces : Type 0
JoinedBlocksKeepTheTraces = (g : List Block) (b c : ℕ) (es fs : List Event) (end : Ending) → Has g b es (ToAny (c ∷ [])) → Has g c fs end
    → (entry : ℕ) (l : List Item) → GraphTrace g entry l ↔ GraphTrace (slice_set g b (record { events = es ++ fs; ending = end })) entry l

-- ends, and the way into the function, may lead to where control comes from their targets over blocks that only lead on
abbrev pub RedirectedEndsKeepTheTraces : Type 0
RedirectedEndsKeepTheTraces = (g : List Block) (f : ℕ → ℕ) → ((b : ℕ) → ComesTo g b (f b))
    → (entry : ℕ) (l : List Item) → GraphTrace g entry l ↔ GraphTrace (map (redirected f) g) (f entry) l
