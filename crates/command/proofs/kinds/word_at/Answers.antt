use Rattle.std.proofs.Common.{arith}
use Rattle.command.proofs.Turns.{checker_word, source_word}
use Rattle.command.proofs.kinds.word_at.Goals as goal

pub returns-then-position-checkers : goal.returns-then-position-checkers
returns-then-position-checkers c turn here = checker_word c.args.checkers.now c.args.sources.now c.args.position turn _ here (omega (arith, c.if-position-checkers.true))

pub returns : goal.returns
returns c turn here = source_word c.args.checkers.now c.args.sources.now c.args.position turn _ here (omega (arith, c.if-position-checkers.false)) c.requires
