use Rattle.std.proofs.Common.{ap, ◌∙◌}
use Rattle.entry_log.specs.Bits.{is_set_in}
use Rattle.entry_log.proofs.Setting.{one_more_row}
use Rattle.entry_log.proofs.bits.add_rows.Goals as goal

pub loop-rows-preserved : goal.loop-rows-preserved
loop-rows-preserved c r b = ap (λ rows. is_set_in rows r b) c.in_ok-push.ensures.items ∙ one_more_row c.loop-rows.rows.items c.new.result c.new.ensures.items r b ∙ c.loop-rows.invariant r b

pub returns-in_err-push-clause-same : goal.returns-in_err-push-clause-same
returns-in_err-push-clause-same c r b = ap (λ rows. is_set_in rows r b) c.in_err-push.ensures.items ∙ c.loop-rows.invariant r b
