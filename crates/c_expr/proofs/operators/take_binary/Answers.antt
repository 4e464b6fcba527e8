use Rattle.std.proofs.Common.{sym, arith}
use Rattle.c_tree.specs.Symbol.{Sign}
use Rattle.c_tree.specs.Tokens.{binary_sign}
use Rattle.c_grammar.proofs.Front.{binary_of-some}
use Rattle.c_expr.proofs.Standing.{front-passes}
use Rattle.c_expr.proofs.operators.take_binary.Goals as goal

pub returns-then-level_of-level-clause-passes : goal.returns-then-level_of-level-clause-passes
returns-then-level_of-level-clause-passes c = front-passes (Sign (binary_sign c.in_ok-op-in-len1-up.op)) c.args.tokens.now _ (omega (arith, c.in-len1-up.len_at_least)) (binary_of-some _ c.in_ok-op-in-len1-up.op (sym c.in_ok-op-in-len1-up.ensures))
