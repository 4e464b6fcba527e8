use Rattle.std.proofs.Common.{◌∷◌, [], sym, subst, Contains}
use Rattle.least_set.specs.Logs.{IsExactly}
use Rattle.row_flows.proofs.LeftCalm.{calm_ends}
use Rattle.numbered_engine.specs.Program.{is_own_frame}
use Rattle.numbered_engine.proofs.engine.given_calmly.Goals as goal

pub given_by-requires-clause-tuples : goal.given_by-requires-clause-tuples
given_by-requires-clause-tuples c =
    let e = c.args.edge.now in
    let f = c.args.function.now in
    subst (λ l. IsExactly (e.tuple ∷ []) (Contains l)) (sym (calm_ends (is_own_frame f e.context.entry) f.own.items e.tuple c.args.block.now.rows.rows.items c.requires.calm)) (λ t h. h, λ t h. h)
