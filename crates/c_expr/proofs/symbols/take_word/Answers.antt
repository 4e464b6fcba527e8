use Rattle.std.proofs.Common.{arith}
use Rattle.c_expr.proofs.Standing.{front-kept}
use Rattle.c_expr.proofs.symbols.take_word.Goals as goal

pub returns-in-Word-clause-kept : goal.returns-in-Word-clause-kept
returns-in-Word-clause-kept c = front-kept c.args.tokens.now _ (omega (arith, c.in-len1-up.len_at_least))
