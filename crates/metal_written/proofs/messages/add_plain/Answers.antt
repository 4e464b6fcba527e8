use Rattle.std.proofs.Common.{arith}
use Rattle.metal_written.proofs.InPieces.{plain-byte}
use Rattle.metal_written.proofs.messages.add_plain.Goals as goal

pub returns : goal.returns
returns c = plain-byte _ _ _ c.args.byte (λ e. absurd (omega (arith, e))) c.in_ok-push.ensures.items
