use Rattle.std.proofs.Common.{sym, arith}
use Rattle.c_expr.proofs.Standing.{front-leads}
use Rattle.c_expr.proofs.operators.take_prefix.Goals as goal

pub returns-in_ok-op-in-len1-up-clause-leads : goal.returns-in_ok-op-in-len1-up-clause-leads
returns-in_ok-op-in-len1-up-clause-leads c = front-leads c.in_ok-op-in-len1-up.op c.args.tokens.now _ (omega (arith, c.in-len1-up.len_at_least)) (sym c.in_ok-op-in-len1-up.ensures)
