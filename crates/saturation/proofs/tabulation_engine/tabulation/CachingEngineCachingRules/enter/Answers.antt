use Rattle.std.proofs.Common.{List, sym, subst}
use Rattle.path_edges.specs.EdgeSteps.Steps.{StandsBehind}
use Rattle.function_tables.specs.EngineTables.Known.{checker_in, texts_in, graphs_in, objects_in}
use Rattle.least_set.specs.Logs.{IsExactly}
use Rattle.path_edges.specs.Relations.{LeadsTo, WaitsAt, IsEndOf}
use Rattle.saturation.proofs.TabulationEngine.Somehow.{edges-somehow, waits-somehow, end-somehow}
use Rattle.state_tuples.specs.declared.tuple.Tuple.{Tuple}
use Rattle.saturation.proofs.tabulation_engine.tabulation.CachingEngineCachingRules.enter.Goals as goal

pub returns-clause-goes : goal.returns-clause-goes
returns-clause-goes c =
    let e = c.args.self.now.engine.now in
    let t = e.tables in
    let a = c.args.member.now in
    let stand = λ (l : List Tuple). IsExactly l (StandsBehind (checker_in t) (texts_in t) (graphs_in t) (objects_in t) a) in
    edges-somehow c.in_ok-next.next.items (LeadsTo (checker_in t) (texts_in t) (graphs_in t) (objects_in t) a)
    e.known (λ k. c.in_ok-next.ensures k (subst stand (sym c.as_slice.ensures.value) (c.in_ok-tuples.ensures k)))

pub returns-clause-waits : goal.returns-clause-waits
returns-clause-waits c =
    let e = c.args.self.now.engine.now in
    let t = e.tables in
    let a = c.args.member.now in
    let stand = λ (l : List Tuple). IsExactly l (StandsBehind (checker_in t) (texts_in t) (graphs_in t) (objects_in t) a) in
    waits-somehow c.in_ok-waits.waits.items (λ w. WaitsAt (checker_in t) (texts_in t) (graphs_in t) (objects_in t) a w.on w.waiter)
    e.known (λ k. c.in_ok-waits.ensures k (subst stand (sym c.as_slice-2.ensures.value) (c.in_ok-tuples.ensures k)))

pub returns-clause-ends : goal.returns-clause-ends
returns-clause-ends c =
    let e = c.args.self.now.engine.now in
    let t = e.tables in
    end-somehow c.end_of-end.result (IsEndOf (checker_in t) (texts_in t) (graphs_in t) (objects_in t) c.args.member.now) e.known c.end_of-end.ensures
