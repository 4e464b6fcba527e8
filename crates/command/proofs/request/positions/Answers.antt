use Rattle.std.proofs.Common.{arith}
use Rattle.command.proofs.Positions.{position_next}
use Rattle.command.proofs.request.positions.Goals as goal

pub loop-position-preserved : goal.loop-position-preserved
loop-position-preserved c = record {
  bound = omega (arith, c.loop-position-test.true);
  all = position_next c.loop-position.all.items c.push.new.self.items _ c.loop-position.position c.args.to (omega (arith, c.loop-position-test.true)) c.in_ok-push.ensures.items c.loop-position.invariant.all;
}
