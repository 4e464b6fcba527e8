-- WHAT A CONTRACT SEES OF A LOG OF EDGES: their list.
use Rattle.std.specs.Prelude.{ℕ, List, map}
use Rattle.numbered_engine.specs.declared.edge_log.EdgeRow.{EdgeRow}
use Rattle.numbered_engine.specs.declared.edges.NumberedEdge.{NumberedEdge}

pub record Edges : Type 0 where
  pub keys : List NumberedEdge

-- the edge of a row at a block
abbrev pub edge_at : EdgeRow × ℕ → NumberedEdge
edge_at e = record { context = e.0.context; block = e.1; tuple = e.0.tuple }

-- the row of an edge
abbrev pub row_in : NumberedEdge → EdgeRow
row_in e = record { context = e.context; tuple = e.tuple }

abbrev pub edges_of : List (EdgeRow × ℕ) → List NumberedEdge
edges_of es = map edge_at es
