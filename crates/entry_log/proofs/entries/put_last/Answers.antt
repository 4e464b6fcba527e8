use Rattle.std.proofs.Common.{◌||◌, ◌∷◌, ◌++◌, [], length, ap, sym, subst, ◌∙◌}
use Rattle.entry_log.specs.Bits.{is_set_in}
use Rattle.entry_log.specs.Rows.{is_at, place, Agree}
use Rattle.entry_log.proofs.Placing.{agree_alike, agree_with_bit}
use Rattle.entry_log.proofs.Setting.{refilled}
use Rattle.entry_log.proofs.entries.put_last.Goals as goal

pub returns-in_err-widen-clause-agree : goal.returns-in_err-widen-clause-agree
returns-in_err-widen-clause-agree c = agree_alike c.args.rows.now.items c.args.order.now.items c.args.row c.args.block c.requires c.widen.new.rows.items c.widen.ensures.same

pub returns-in_err-push-clause-agree : goal.returns-in_err-push-clause-agree
returns-in_err-push-clause-agree c =
    rw c.in_err-push.ensures.items (agree_alike c.args.rows.now.items c.args.order.now.items c.args.row c.args.block c.requires c.widen.new.rows.items c.widen.ensures.same)

pub returns-clause-last : goal.returns-clause-last
returns-clause-last c = c.in_ok-push.ensures.items ∙ ap (λ n. c.args.order.now.items ++ place n c.args.block ∷ []) c.in_ok-number.ensures.number

pub returns-clause-agree : goal.returns-clause-agree
returns-clause-agree c =
    let row = c.args.row in
    let block = c.args.block in
    let order = c.args.order.now.items in
    let wide = c.widen.new.rows in
    let new = c.push.new.self.items in
    let whole = refilled wide.len c.set.new.rows wide.items (c.set.ensures.len ∙ ap length c.deref_mut.ensures.value ∙ sym wide.ok.0) in
    let same = agree_alike c.args.rows.now.items order row block c.requires wide.items c.widen.ensures.same in
    subst (λ rows. Agree rows new) (sym whole)
    (agree_with_bit wide.items order row block same c.set.new.rows new (returns-clause-last c)
    (λ r b. c.set.ensures.bits r b ∙ ap (λ rows. is_at r b (place row block) || is_set_in rows r b) c.deref_mut.ensures.value))
