use Rattle.std.proofs.Common.{ap, not, sym, ◌∙◌}
use Rattle.std.proofs.lemmas.Result.{IfOk-weaker, on_err_weaker, on_ok_weaker}
use Rattle.numbered_engine.specs.EdgeLists.{edges_of}
use Rattle.numbered_engine.proofs.Mapped.{edge_inserted, edge_there}
use Rattle.numbered_engine.proofs.edge_log.EdgeLogLogNumberedEdge.insert.Goals as goal

pub returns-clause-added : goal.returns-clause-added
returns-clause-added c =
    let there = edge_there c.self.inside.entries.keys c.args.member c.row_of.result c.row_of.ensures in
    rw (← c.self.view_is) (IfOk-weaker c.insert.result _ _ (λ added is. is ∙ ap not (sym there)) c.insert.ensures.added)

pub returns-clause-last : goal.returns-clause-last
returns-clause-last c = rw (← c.self.view_is) (on_ok_weaker c.insert.result (edge_inserted c.self.inside.entries.keys c.args.member c.row_of.result c.row_of.ensures c.insert.new.self.keys) c.insert.ensures.keys)

pub returns-clause-err : goal.returns-clause-err
returns-clause-err c = rw (← c.self.view_is) (on_err_weaker c.insert.result (ap edges_of) c.insert.ensures.err)

pub returns-clause-absent : goal.returns-clause-absent
returns-clause-absent c =
    let there = edge_there c.self.inside.entries.keys c.args.member c.row_of.result c.row_of.ensures in
    rw (← c.self.view_is) (on_err_weaker c.insert.result (λ none. there ∙ none) c.insert.ensures.absent)
