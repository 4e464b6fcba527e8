use Rattle.std.proofs.Common.{true, false, arith}
use Rattle.metal_grammar.specs.Grammar.{is_alternative}
use Rattle.metal_written.specs.Written.{alternative_view}
use Rattle.metal_forms.proofs.Walks.{each-step}
use Rattle.metal_forms.proofs.well_formed.are_alternatives.Goals as goal

pub returns-then-not-is_alternative : goal.returns-then-not-is_alternative
returns-then-not-is_alternative c = λ b k.
    each-step alternative_view (is_alternative c.args.names.now b.holes) c.args.rule.now.alternatives.now c.loop-alternative.alternative-index c.alternative-item.result false _ (omega arith) c.alternative-item.is (c.if-not-is_alternative.ensures b k) (c.loop-alternative.invariant b k)

pub loop-alternative-preserved : goal.loop-alternative-preserved
loop-alternative-preserved c = λ b k.
    each-step alternative_view (is_alternative c.args.names.now b.holes) c.args.rule.now.alternatives.now c.loop-alternative.alternative-index c.alternative-item.result true _ (omega arith) c.alternative-item.is (c.if-not-is_alternative.ensures b k) (c.loop-alternative.invariant b k)
