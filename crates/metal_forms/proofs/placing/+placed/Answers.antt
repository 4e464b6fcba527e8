use Rattle.std.proofs.Common.{true, false, arith}
use Rattle.c_tree.specs.declared.tree.Trees.{out-Trees}
use Rattle.metal_forms.proofs.Walks.{element-step, designator-step, argument-step}
use Rattle.metal_forms.proofs.placing.+placed.Goals as goal

pub are_placed_in_arguments-returns-then-not-are_placed : goal.are_placed_in_arguments-returns-then-not-are_placed
are_placed_in_arguments-returns-then-not-are_placed t c = λ b k.
    argument-step b.holes (out-Trees c.args.arguments.now).all.now c.loop-index.index _ false _ _ (omega arith) c.position_at-position.ensures (c.if-not-are_placed.ensures b k) (c.loop-index.invariant.rest b k)

pub are_placed_in_arguments-loop-index-preserved : goal.are_placed_in_arguments-loop-index-preserved
are_placed_in_arguments-loop-index-preserved t c = record {
  rest = λ b k. argument-step b.holes (out-Trees c.args.arguments.now).all.now c.loop-index.index _ true _ _ (omega arith) c.position_at-position.ensures (c.if-not-are_placed.ensures b k) (c.loop-index.invariant.rest b k);
  bound = omega arith;
}

pub are_placed_in_elements-returns-then-not-is_operand : goal.are_placed_in_elements-returns-then-not-is_operand
are_placed_in_elements-returns-then-not-is_operand t c = λ b k.
    element-step b.holes (out-Trees c.args.elements.now).all.now c.loop-element.element-index _ false _ (omega arith) (c.if-not-is_operand.ensures b k) (c.loop-element.invariant b k)

pub are_placed_in_elements-loop-element-preserved : goal.are_placed_in_elements-loop-element-preserved
are_placed_in_elements-loop-element-preserved t c = λ b k.
    element-step b.holes (out-Trees c.args.elements.now).all.now c.loop-element.element-index _ true _ (omega arith) (c.if-not-is_operand.ensures b k) (c.loop-element.invariant b k)

pub are_placed_in_path-returns-then-not-are_placed_in_designator : goal.are_placed_in_path-returns-then-not-are_placed_in_designator
are_placed_in_path-returns-then-not-are_placed_in_designator t c = λ b k.
    designator-step b.holes (out-Trees c.args.path.now).all.now c.loop-designator.designator-index _ false _ (omega arith) (c.if-not-are_placed_in_designator.ensures b k) (c.loop-designator.invariant b k)

pub are_placed_in_path-loop-designator-preserved : goal.are_placed_in_path-loop-designator-preserved
are_placed_in_path-loop-designator-preserved t c = λ b k.
    designator-step b.holes (out-Trees c.args.path.now).all.now c.loop-designator.designator-index _ true _ (omega arith) (c.if-not-are_placed_in_designator.ensures b k) (c.loop-designator.invariant b k)
