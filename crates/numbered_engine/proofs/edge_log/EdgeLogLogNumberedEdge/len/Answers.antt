use Rattle.std.proofs.Common.{sym, ◌∙◌}
use Rattle.numbered_engine.specs.EdgeLists.{edge_at}
use Rattle.numbered_engine.proofs.Mapped.{distinct_edges, mapped_length}
use Rattle.numbered_engine.proofs.edge_log.EdgeLogLogNumberedEdge.len.Goals as goal

pub returns-clause-len : goal.returns-clause-len
returns-clause-len c = rw (← c.self.view_is) (c.len.ensures.len ∙ sym (mapped_length edge_at c.self.inside.entries.keys))

pub returns-clause-unique : goal.returns-clause-unique
returns-clause-unique c = rw (← c.self.view_is) (distinct_edges c.self.inside.entries.keys c.len.ensures.unique)
