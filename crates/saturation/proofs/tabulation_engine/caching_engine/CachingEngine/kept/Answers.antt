use Rattle.std.proofs.Common.{sym, subst, ap, ◌∙◌, List}
use Rattle.std.proofs.Math.Logic.{∥∥₁_map₂}
use Rattle.std.specs.Option.{option_copied}
use Rattle.path_edges.specs.EdgeSteps.Steps.{StandsBehind}
use Rattle.function_tables.specs.EngineTables.Known.{checker_in, texts_in, graphs_in, objects_in}
use Rattle.least_set.specs.Logs.{IsExactly}
use Rattle.state_tuples.specs.declared.tuple.Tuple.{Tuple}
use Rattle.saturation.proofs.tabulation_engine.caching_engine.CachingEngine.kept.Goals as goal

pub returns-in-Some : goal.returns-in-Some
returns-in-Some c =
    let s = c.args.self.now in
    let t = s.engine.now.tables in
    let stand = λ (l : List Tuple). IsExactly l (StandsBehind (checker_in t) (texts_in t) (graphs_in t) (objects_in t) c.args.edge.now) in
    ∥∥₁_map₂ s.engine.now.known s.exact
    (λ known kept. subst stand (sym c.as_slice.ensures.value) (kept known c.args.edge.now c.in-Some.tuples.now (sym c.get.ensures.value ∙ ap option_copied c.in-Some.is)))
