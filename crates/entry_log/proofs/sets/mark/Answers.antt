use Rattle.std.proofs.Common.{◌&&◌, ◌||◌, nat_eq, length, sym, ap, ◌∙◌}
use Rattle.entry_log.specs.Bits.{is_set_in}
use Rattle.entry_log.proofs.Marking.{is_already}
use Rattle.entry_log.proofs.Setting.{refilled}
use Rattle.entry_log.proofs.sets.mark.Goals as goal

pub returns-then-has-clause-bits : goal.returns-then-has-clause-bits
returns-then-has-clause-bits c = is_already c.args.rows.now.items c.args.row c.args.block (ap (λ rows. is_set_in rows c.args.row c.args.block) (sym c.deref.ensures.value) ∙ sym c.has.ensures ∙ c.if-has.true)

pub returns-clause-bits : goal.returns-clause-bits
returns-clause-bits c =
    let row = c.args.row in
    let block = c.args.block in
    let wide = c.widen.new.rows in
    let whole = refilled wide.len c.set.new.rows wide.items (c.set.ensures.len ∙ ap length c.deref_mut.ensures.value ∙ sym wide.ok.0) in
    λ r b. ap (λ rows. is_set_in rows r b) whole ∙ c.set.ensures.bits r b
    ∙ ap (λ rows. (nat_eq r row && nat_eq b block) || is_set_in rows r b) c.deref_mut.ensures.value
    ∙ ap (λ t. (nat_eq r row && nat_eq b block) || t) (c.widen.ensures.same r b)
