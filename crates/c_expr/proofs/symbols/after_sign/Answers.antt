use Rattle.std.proofs.Common.{◌∙◌, sym, arith}
use Rattle.c_tree.specs.Symbol.{Sign}
use Rattle.c_grammar.proofs.Front.{is_sign-true}
use Rattle.c_expr.proofs.Standing.{front-passes}
use Rattle.c_expr.proofs.symbols.after_sign.Goals as goal

pub returns-then-is_sign-clause-passes : goal.returns-then-is_sign-clause-passes
returns-then-is_sign-clause-passes c = front-passes (Sign c.args.sign) c.args.tokens.now _ (omega (arith, c.in-len1-up.len_at_least)) (is_sign-true c.args.sign _ (sym c.is_sign.ensures ∙ c.if-is_sign.true))
