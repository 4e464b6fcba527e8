use Rattle.std.proofs.Common.{◌∙◌, [], ap, sym, subst, Contains}
use Rattle.std.specs.Prelude.{option_copied}
use Rattle.least_set.specs.Logs.{IsExactly}
use Rattle.row_flows.proofs.LeftCalm.{calm_shown}
use Rattle.numbered_engine.specs.Program.{is_own_frame}
use Rattle.numbered_engine.specs.Showing.{shown_at}
use Rattle.numbered_engine.proofs.Given.{shown_there}
use Rattle.numbered_engine.proofs.Results.{if_ok}
use Rattle.numbered_engine.proofs.showing.firings_at.Goals as goal

pub returns : goal.returns
returns g c =
    let p = c.args.engine.now.program.now in
    let e = c.args.edge.now in
    let f = c.in-Some.function.now in
    let b = c.in-Some-block_of.block.now in
    let function = sym c.function_at.ensures ∙ ap option_copied c.in-Some.is in
    let block = sym c.block_of.ensures ∙ ap option_copied c.in-Some-block_of.is in
    if_ok _ _ c.firings_in.result (λ list exact. subst (λ l. IsExactly list.items (Contains l)) (sym (shown_there p e f b function block)) exact) c.firings_in.ensures

-- a block that leaves the object calm shows nothing
pub returns-then-leaves_calm : goal.returns-then-leaves_calm
returns-then-leaves_calm g c =
    let p = c.args.engine.now.program.now in
    let e = c.args.edge.now in
    let f = c.in-Some.function.now in
    let b = c.in-Some-block_of.block.now in
    let function = sym c.function_at.ensures ∙ ap option_copied c.in-Some.is in
    let block = sym c.block_of.ensures ∙ ap option_copied c.in-Some-block_of.is in
    let none = calm_shown (is_own_frame f e.context.entry) f.own.items e.tuple 0 b.rows.rows.items (c.leaves_calm.ensures c.if-leaves_calm.true) in
    subst (λ l. IsExactly l (Contains (shown_at p e))) (sym c.new-then-leaves_calm.ensures.items)
    (subst (λ l. IsExactly [] (Contains l)) (sym (shown_there p e f b function block ∙ none)) (λ t h. h, λ t h. h))
