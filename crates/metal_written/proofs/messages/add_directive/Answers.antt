use Rattle.std.proofs.Common.{◌≡◌, arith}
use Rattle.metal_written.proofs.InPieces.{behind-percent}
use Rattle.metal_written.proofs.messages.add_directive.Goals as goal

pub returns : goal.returns
returns c = let e : c.args.byte ≡ 37 = omega arith in behind-percent _ _ _ c.args.argument c.args.byte e c.in_ok-push.ensures.items
