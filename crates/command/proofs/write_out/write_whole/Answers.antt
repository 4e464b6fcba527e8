use Rattle.std.proofs.Common.{◌∙◌, length, ◌<◌, ◌≤◌, ◌-◌, length-drop, refl, arith}
use Rattle.command.proofs.Handing.{appends_nothing, ends, fails, one_more, starts}
use Rattle.command.proofs.Writing.{append_cut}
use Rattle.command.proofs.write_out.write_whole.Goals as goal

pub loop-at-init : goal.loop-at-init
loop-at-init g c = record {
  within = omega arith;
  taken = appends_nothing (g.S.Sink.received c.args.sink.now);
  still = refl;
  fitting = λ h. omega (arith, h);
  handed = starts g.S.Sink.write_gives c.args.sink.now c.args.text.now;
}

pub loop-at-preserved : goal.loop-at-preserved
loop-at-preserved g c =
    let fits : c.in_ok-at.field-0 ≤ length c.args.text.now - c.loop-at.at = omega (arith, c.in_ok-at.ensures.most, length-drop c.loop-at.at c.args.text.now) in
    let more : c.loop-at.at < length c.args.text.now = omega (arith, c.loop-at-test.true) in
    record {
      within = omega (arith, c.in_ok-at.ensures.most, length-drop c.loop-at.at c.args.text.now);
      taken = append_cut _ _ _ c.loop-at.at c.in_ok-at.field-0 _ c.args.text.now fits c.loop-at.invariant.taken c.in_ok-at.ensures.bytes;
      still = c.in_ok-at.ensures.cause.still ∙ c.loop-at.invariant.still;
      fitting = λ h.
          let before = c.loop-at.invariant.fitting h in
          let piece = length-drop c.loop-at.at c.args.text.now in
          omega (arith, before, c.in_ok-at.ensures.surely (omega (arith, before, piece)), c.in_ok-at.ensures.most, piece);
      handed = one_more g.S.Sink.write_gives c.args.sink.now c.args.text.now c.loop-at.sink _ c.loop-at.at more c.loop-at.invariant.handed c.in_ok-at.field-0 c.in_ok-at.ensures.gives;
    }

pub returns-in_err-at-clause-handed : goal.returns-in_err-at-clause-handed
returns-in_err-at-clause-handed g c =
    let more : c.loop-at.at < length c.args.text.now = omega (arith, c.loop-at-test.true) in
    fails g.S.Sink.write_gives c.args.sink.now c.args.text.now c.loop-at.sink _ c.loop-at.at more c.loop-at.invariant.handed c.from_residual.result c.from_residual.ensures.0 _ c.in_err-at.ensures.gives

pub returns-clause-handed : goal.returns-clause-handed
returns-clause-handed g c = ends g.S.Sink.write_gives c.args.sink.now c.args.text.now c.loop-at.sink c.loop-at.at (omega (arith, c.loop-at-test.false)) c.loop-at.invariant.handed
