use Rattle.std.proofs.Common.{sym, ap, ◌∙◌}
use Rattle.entry_log.specs.Bits.{is_set_in}
use Rattle.entry_log.proofs.Placing.{on_err, puts_nothing, isnt_placed, puts_last}
use Rattle.entry_log.proofs.entries.put.Goals as goal

pub returns-then-has-clause-puts : goal.returns-then-has-clause-puts
returns-then-has-clause-puts c =
    puts_nothing c.args.rows.now.items c.args.order.now.items c.args.row c.args.block c.requires
    (ap (λ rows. is_set_in rows c.args.row c.args.block) (sym c.deref.ensures.value) ∙ sym c.has.ensures ∙ c.if-has.true)

pub returns-in_err-put_last-clause-err : goal.returns-in_err-put_last-clause-err
returns-in_err-put_last-clause-err c = on_err c.from_residual.result (
  c.in_err-put_last.ensures.err,
  isnt_placed c.args.rows.now.items c.args.order.now.items c.args.row c.args.block c.requires
      (ap (λ rows. is_set_in rows c.args.row c.args.block) (sym c.deref.ensures.value) ∙ sym c.has.ensures ∙ c.if-has.false),
)

pub returns-clause-puts : goal.returns-clause-puts
returns-clause-puts c =
    puts_last c.args.rows.now.items c.args.order.now.items c.args.row c.args.block c.requires
    (ap (λ rows. is_set_in rows c.args.row c.args.block) (sym c.deref.ensures.value) ∙ sym c.has.ensures ∙ c.if-has.false)
    c.put_last.new.order.items c.in_ok-put_last.ensures.last
