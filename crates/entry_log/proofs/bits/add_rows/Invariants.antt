use Rattle.std.proofs.Common.{◌≡◌, ℕ, ◌+◌, ◌-◌, vec_len}
use Rattle.entry_log.specs.Bits.{is_set_in}
use Rattle.entry_log.proofs.bits.add_rows.Given as goal

-- no bit has changed
abbrev pub invariant-loop-rows : goal.invariant-loop-rows
invariant-loop-rows l = (r b : ℕ) → is_set_in l.rows.items r b ≡ is_set_in l.fn.rows.items r b

abbrev pub decreases-loop-rows : goal.decreases-loop-rows
decreases-loop-rows l = l.row + 1 - vec_len l.rows
