use Rattle.std.proofs.Common.{◌%◌, nat_eq, ap, ◌∙◌}
use Rattle.std.specs.Int.{bit_at}
use Rattle.std.proofs.lemmas.Nat.Bits.{shr_and_one}
use Rattle.entry_log.proofs.bits.has_bit.Goals as goal

pub returns : goal.returns
returns c = ap (λ n. nat_eq n 1) (shr_and_one c.word_at.result (c.args.bit % 64) ∙ ap (λ w. bit_at w (c.args.bit % 64)) c.word_at.ensures)
