use Rattle.std.proofs.Common.{◌∙◌, ap, sym, subst, Contains}
use Rattle.std.proofs.Math.Logic.{∥∥₁_map}
use Rattle.std.specs.Prelude.{option_copied}
use Rattle.least_set.specs.Logs.{IsExactly}
use Rattle.row_flows.specs.Crossing.{shown}
use Rattle.numbered_engine.specs.Program.{is_own_frame}
use Rattle.numbered_engine.specs.Tables.{own_in, rows_in}
use Rattle.numbered_engine.proofs.Given.{own_there, rows_there}
use Rattle.numbered_engine.proofs.Results.{if_ok}
use Rattle.numbered_engine.proofs.Stable.{firings_known}
use Rattle.numbered_engine.proofs.showing.firings_in.Goals as goal

pub returns-in-Some : goal.returns-in-Some
returns-in-Some c =
    let p = c.args.program.now in
    let e = c.args.edge.now in
    let f = c.args.function.now in
    let b = c.args.block.now in
    let k = c.is_own_frame.result in
    let found = c.in-Some.exits.now.firings.items in
    let there = sym c.held.ensures ∙ ap option_copied c.in-Some.is in
    let exact = firings_known found (shown 0 (rows_in p e.context.function e.block) k (own_in p e.context.function) e.tuple)
    (∥∥₁_map c.requires.known (λ right. (right.held (record { function = e.context.function; block = e.block; tuple = e.tuple; is_root = k }) c.in-Some.exits.now there).firings)) in
    let rows = subst (λ l. IsExactly found (Contains (shown 0 l k (own_in p e.context.function) e.tuple))) (rows_there p e f b c.requires.function c.requires.block) exact in
    let own = subst (λ l. IsExactly found (Contains (shown 0 b.rows.rows.items k l e.tuple))) (own_there p e f b c.requires.function c.requires.block) rows in
    let kind = subst (λ r. IsExactly found (Contains (shown 0 b.rows.rows.items r f.own.items e.tuple))) c.is_own_frame.ensures own in
    if_ok _ _ c.to_vec.result (λ list made. subst (λ l. IsExactly l (Contains (shown 0 b.rows.rows.items (is_own_frame f e.context.entry) f.own.items e.tuple))) (sym (made ∙ c.as_slice.ensures.value)) kind) (if_ok _ _ c.to_vec.result (λ list same. same (λ x y h. h)) c.to_vec.ensures.items_if_clones_equal)
