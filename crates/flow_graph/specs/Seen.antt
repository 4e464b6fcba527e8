-- What a contract sees of a flow graph.
use Rattle.std.specs.Prelude.{ℕ, List}
use Rattle.flow_graph.specs.CPaths.Building as building
use Rattle.flow_graph.specs.declared.graph.Block.{Block}
use Rattle.flow_graph.specs.declared.graph.Graph.{Graph}
use Rattle.flow_graph.specs.Values.{blocks_of}

-- its blocks, and the one in which the function begins
abbrev pub graph_in : Graph → building.Graph
graph_in g = record { blocks = blocks_of g.blocks.items; entry = g.entry }

-- the graph of these blocks, in which the function begins at the one with this number
abbrev pub graph_with : List Block → ℕ → building.Graph
graph_with bs entry = record { blocks = blocks_of bs; entry = entry }
