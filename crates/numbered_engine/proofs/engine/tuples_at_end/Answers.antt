use Rattle.std.proofs.Common.{◌≡◌, ◌∙◌, sym, subst, IfOk, Some, Contains}
use Rattle.least_set.specs.Logs.{IsExactly}
use Rattle.row_flows.specs.Crossing.{ends}
use Rattle.block_summary.specs.Exits.{tuples_of}
use Rattle.block_summary.specs.Kept.{held_in}
use Rattle.numbered_engine.specs.Program.{is_own_frame}
use Rattle.numbered_engine.proofs.Results.{if_ok}
use Rattle.numbered_engine.proofs.engine.tuples_at_end.Goals as goal

pub returns-clause-tuples : goal.returns-clause-tuples
returns-clause-tuples g c =
    let exits = c.in_ok-exits.exits in
    let f = c.args.edge.now.context.function in
    let b = c.args.edge.now.block in
    let t = c.args.edge.now.tuple in
    let root = c.is_own_frame.result in
    let new = c.enter.follows.lender-at-none in
    let entered = c.enter.follows.holds-at-none in
    let lent = subst (λ r. IfOk r (λ e. held_in new (record { function = f; block = b; tuple = t; is_root = root }) ≡ Some e.now)) c.in_ok-exits.was entered.lent in
    if_ok _ _ c.tuples_of.result
    (λ ts made rows_of own_of at is_own was_right.
    let right = entered.right rows_of own_of at (is_own ∙ sym c.as_slice.ensures.value) was_right in
    let exact = (right.held (record { function = f; block = b; tuple = t; is_root = root }) exits.now lent).tuples in
    let rows_there = subst (λ rows. IsExactly (tuples_of exits.now t) (Contains (ends rows root (own_of f) t))) at exact in
    let own_there = subst (λ own. IsExactly (tuples_of exits.now t) (Contains (ends c.args.block.now.rows.rows.items root own t))) is_own rows_there in
    let kind_there = subst (λ r. IsExactly (tuples_of exits.now t) (Contains (ends c.args.block.now.rows.rows.items r c.args.function.now.own.items t))) c.is_own_frame.ensures own_there in
    subst (λ l. IsExactly l (Contains (ends c.args.block.now.rows.rows.items (is_own_frame c.args.function.now c.args.edge.now.context.entry) c.args.function.now.own.items t))) (sym made) kind_there)
    c.tuples_of.ensures
