use Rattle.function_tables.specs.EngineTables.Known.{checker_in, texts_in, graphs_in, objects_in}
use Rattle.path_edges.specs.Relations.{Begins}
use Rattle.saturation.proofs.TabulationEngine.Somehow.{edges-somehow}
use Rattle.block_flows.proofs.TupleFlows.Lists.{if-ok}
use Rattle.saturation.proofs.tabulation_engine.tabulation.CachingEngineCachingRules.begin.Goals as goal

pub returns : goal.returns
returns c =
    let e = c.args.self.now.engine.now in
    let t = e.tables in
    record { exact = if-ok _ _ c.begin.result (λ list x. edges-somehow list.items (Begins (checker_in t) (texts_in t) (graphs_in t) (objects_in t)) e.known x) c.begin.ensures }
