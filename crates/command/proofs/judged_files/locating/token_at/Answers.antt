use Rattle.command.proofs.JudgedFiles.Located.{further}
use Rattle.command.proofs.judged_files.locating.token_at.Goals as goal

pub loop-place-preserved : goal.loop-place-preserved
loop-place-preserved c = further c.args.tokens.now c.loop-place.position _ c.args.place c.ne.result c.ne.ensures c.loop-place-test.true c.loop-place.invariant
