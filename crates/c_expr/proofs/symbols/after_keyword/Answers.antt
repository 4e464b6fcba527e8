use Rattle.std.proofs.Common.{◌∙◌, sym, arith}
use Rattle.c_tree.specs.Symbol.{Reserved}
use Rattle.c_grammar.proofs.Front.{is_keyword-true}
use Rattle.c_expr.proofs.Standing.{front-passes}
use Rattle.c_expr.proofs.symbols.after_keyword.Goals as goal

pub returns-then-is_keyword-clause-passes : goal.returns-then-is_keyword-clause-passes
returns-then-is_keyword-clause-passes c = front-passes (Reserved c.args.word) c.args.tokens.now _ (omega (arith, c.in-len1-up.len_at_least)) (is_keyword-true c.args.word _ (sym c.is_keyword.ensures ∙ c.if-is_keyword.true))
