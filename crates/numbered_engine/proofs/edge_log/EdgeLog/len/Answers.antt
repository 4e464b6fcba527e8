use Rattle.std.proofs.Common.{sym, ◌∙◌}
use Rattle.numbered_engine.specs.EdgeLists.{edge_at}
use Rattle.numbered_engine.proofs.Mapped.{mapped_length}
use Rattle.numbered_engine.proofs.edge_log.EdgeLog.len.Goals as goal

pub returns : goal.returns
returns c = rw (← c.self.view_is) (c.len.ensures.len ∙ sym (mapped_length edge_at c.self.inside.entries.keys))
