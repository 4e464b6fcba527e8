use Rattle.edge_rules.proofs.Beginnings.{of-all-roots}
use Rattle.function_tables.proofs.EngineTables.Places.{if-ok}
use Rattle.edge_rules.proofs.base.begin.Goals as goal

pub returns : goal.returns
returns c = if-ok _ _ c.edges_of_roots.result (λ list x k. of-all-roots c.args.tables.now k list.items (x k)) c.edges_of_roots.ensures
