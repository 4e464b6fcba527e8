use Rattle.std.proofs.Common.{sym, arith}
use Rattle.c_tree.specs.Symbol.{Sign}
use Rattle.c_tree.specs.Tokens.{assign_sign}
use Rattle.c_grammar.proofs.Front.{assign_of-some}
use Rattle.c_expr.proofs.Standing.{front-passes}
use Rattle.c_expr.proofs.operators.take_assign.Goals as goal

pub returns-in_ok-op-in-len1-up-clause-passes : goal.returns-in_ok-op-in-len1-up-clause-passes
returns-in_ok-op-in-len1-up-clause-passes c = front-passes (Sign (assign_sign c.in_ok-op-in-len1-up.op)) c.args.tokens.now _ (omega (arith, c.in-len1-up.len_at_least)) (assign_of-some _ c.in_ok-op-in-len1-up.op (sym c.in_ok-op-in-len1-up.ensures))
