use Rattle.std.proofs.Common.{List, sym, subst}
use Rattle.std.proofs.Math.Logic.{∥∥₁_map₂}
use Rattle.path_edges.specs.EdgeSteps.Steps.{StandsBehind}
use Rattle.function_tables.specs.EngineTables.Known.{AreKnown, checker_in, texts_in, graphs_in, objects_in}
use Rattle.least_set.specs.Logs.{IsExactly}
use Rattle.path_edges.specs.Relations.{IsWoken}
use Rattle.saturation.proofs.TabulationEngine.Somehow.{edges-somehow}
use Rattle.state_tuples.specs.declared.tuple.Tuple.{Tuple}
use Rattle.block_flows.proofs.TupleFlows.Lists.{if-ok}
use Rattle.saturation.proofs.tabulation_engine.tabulation.CachingEngineCachingRules.wake.Goals as goal

-- with the tuples that were kept
pub returns-in-Some : goal.returns-in-Some
returns-in-Some c =
    let e = c.args.self.now.engine.now in
    let t = e.tables in
    let Stands = IsExactly c.in-Some.kept.now (StandsBehind (checker_in t) (texts_in t) (graphs_in t) (objects_in t) c.args.end.now) in
    record {
      exact = if-ok _ _ c.wake.result
          (λ list woken. edges-somehow {X = AreKnown t × Stands} list.items (IsWoken (checker_in t) (texts_in t) (graphs_in t) (objects_in t) c.args.waiter.now c.args.end.now)
          (∥∥₁_map₂ e.known c.in-Some.ensures (λ k behind. (k, behind)))
          (λ both. woken both.0 both.1))
          c.wake.ensures;
    }

-- with those that are computed now
pub returns-in_ok-tuples-in-None : goal.returns-in_ok-tuples-in-None
returns-in_ok-tuples-in-None c =
    let e = c.args.self.now.engine.now in
    let t = e.tables in
    let stand = λ (l : List Tuple). IsExactly l (StandsBehind (checker_in t) (texts_in t) (graphs_in t) (objects_in t) c.args.end.now) in
    record {
      exact = if-ok _ _ c.wake-in-None.result
          (λ list woken. edges-somehow list.items (IsWoken (checker_in t) (texts_in t) (graphs_in t) (objects_in t) c.args.waiter.now c.args.end.now) e.known
          (λ k. woken k (subst stand (sym c.as_slice.ensures.value) (c.in_ok-tuples-in-None.ensures k))))
          c.wake-in-None.ensures;
    }
