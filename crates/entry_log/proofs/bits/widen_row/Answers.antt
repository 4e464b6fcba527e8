use Rattle.std.proofs.Common.{◌+◌, ◌/◌, arith}
use Rattle.entry_log.proofs.Setting.{resized_alike, resized_wide}
use Rattle.entry_log.proofs.bits.widen_row.Goals as goal

pub returns-clause-same : goal.returns-clause-same
returns-clause-same c = resized_alike c.resize.result c.args.words.now.items c.resize.new.self.items (c.args.bit / 64 + 1) _ (omega (arith, c.args.words.now.ok.0, c.len.ensures, c.if-needed-len.false)) c.resize.ensures.items

pub returns-clause-wide : goal.returns-clause-wide
returns-clause-wide c = resized_wide c.resize.result _ (c.args.bit / 64 + 1) _ (c.args.bit / 64) c.resize.ensures.len (omega arith)
