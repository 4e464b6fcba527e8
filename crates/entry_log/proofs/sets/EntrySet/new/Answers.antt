use Rattle.std.proofs.Common.{◌%◌, nat_eq, ap, ◌∙◌}
use Rattle.std.proofs.lemmas.Nat.Bits.{bit_at-zero}
use Rattle.entry_log.specs.Bits.{has_bit, is_set_in}
use Rattle.entry_log.proofs.sets.EntrySet.new.Goals as goal

pub invariant_of-result : goal.invariant_of-result
invariant_of-result g c = record { behind = λ row bit h. ap (λ rows. is_set_in rows row bit) c.new-2.ensures.items ∙ ap (λ n. nat_eq n 1) (bit_at-zero (bit % 64)) }

pub returns : goal.returns
returns g c = λ k b. ap (λ keys. has_bit g.K.PartialEq.eq keys c.new-2.result.items k b) c.new.ensures.empty
