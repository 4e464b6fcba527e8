use Rattle.c_expr.proofs.Standing.{split-kept}
use Rattle.c_expr.proofs.symbols.split_run.Goals as goal

pub returns-clause-kept : goal.returns-clause-kept
returns-clause-kept c = split-kept c.loop-count.count c.args.tokens.now _ _ c.split_at.ensures.front c.split_at.ensures.back
