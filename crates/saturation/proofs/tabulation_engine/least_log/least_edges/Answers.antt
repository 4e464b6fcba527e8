use Rattle.std.proofs.Common.{subst}
use Rattle.std.specs.Prelude.{IfOk}
use Rattle.function_tables.specs.EngineTables.Known.{checker_in, texts_in, graphs_in, objects_in}
use Rattle.path_edges.specs.Relations.{IsClosedLog, IsLeastLog}
use Rattle.saturation.proofs.tabulation_engine.least_log.least_edges.Goals as goal

pub returns-clause-closed : goal.returns-clause-closed
returns-clause-closed c =
    subst (λ e. IfOk c.least_caching.result (λ log. IsClosedLog (checker_in e.now.tables) (texts_in e.now.tables) (graphs_in e.now.tables) (objects_in e.now.tables) log.keys))
    c.new-rules.ensures c.least_caching.ensures.closed

pub returns-clause-only : goal.returns-clause-only
returns-clause-only c =
    subst (λ e. IfOk c.least_caching.result (λ log. IsLeastLog (checker_in e.now.tables) (texts_in e.now.tables) (graphs_in e.now.tables) (objects_in e.now.tables) log.keys))
    c.new-rules.ensures c.least_caching.ensures.only
