use Rattle.std.proofs.Common.{true, false, arith}
use Rattle.metal_grammar.specs.Grammar.{is_item}
use Rattle.metal_written.specs.Written.{item_view}
use Rattle.metal_forms.proofs.Walks.{each-step, each-end}
use Rattle.metal_forms.proofs.well_formed.are_items.Goals as goal

pub returns-then-not-is_item : goal.returns-then-not-is_item
returns-then-not-is_item c = λ b k.
    each-step item_view (is_item c.args.names.now b.holes) c.args.alternative.now.items.now c.loop-item.item-index c.item-item.result false _ (omega arith) c.item-item.is (c.if-not-is_item.ensures b k) (c.loop-item.invariant b k)

pub loop-item-preserved : goal.loop-item-preserved
loop-item-preserved c = λ b k.
    each-step item_view (is_item c.args.names.now b.holes) c.args.alternative.now.items.now c.loop-item.item-index c.item-item.result true _ (omega arith) c.item-item.is (c.if-not-is_item.ensures b k) (c.loop-item.invariant b k)

pub returns : goal.returns
returns c = λ b k. each-end item_view (is_item c.args.names.now b.holes) c.args.alternative.now.items.now c.loop-item.item-index _ (omega arith) (c.loop-item.invariant b k)
