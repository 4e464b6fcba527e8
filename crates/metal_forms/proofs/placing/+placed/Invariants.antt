use Rattle.std.proofs.Common.{◌≡◌, ◌≤◌, ◌+◌, ◌-◌, ◌*◌, length, drop}
use Rattle.c_tree.specs.declared.tree.Trees.{out-Trees}
use Rattle.c_tree.specs.Forget.{list_view, view_all}
use Rattle.metal_grammar.specs.Grammar.{Before}
use Rattle.metal_grammar.specs.Holes.{are_placed_in_elements, are_placed_in_arguments, are_placed_in_path}
use Rattle.metal_forms.specs.Before.{Knows}
use Rattle.metal_forms.proofs.placing.+placed.Given as goal

abbrev pub invariant-are_placed_in_elements-loop-element : goal.invariant-are_placed_in_elements-loop-element
invariant-are_placed_in_elements-loop-element l = (b : Before) → Knows l.before b
    → are_placed_in_elements b.holes (view_all (drop l.element-index l.element-items)) ≡ are_placed_in_elements b.holes (list_view l.elements)

abbrev pub invariant-are_placed_in_path-loop-designator : goal.invariant-are_placed_in_path-loop-designator
invariant-are_placed_in_path-loop-designator l = (b : Before) → Knows l.before b
    → are_placed_in_path b.holes (view_all (drop l.designator-index l.designator-items)) ≡ are_placed_in_path b.holes (list_view l.path)

abbrev pub invariant-are_placed_in_arguments-loop-index : goal.invariant-are_placed_in_arguments-loop-index
invariant-are_placed_in_arguments-loop-index l = record {
  rest : (b : Before) → Knows l.before b
      → are_placed_in_arguments b.holes (view_all (drop l.index (out-Trees l.arguments).all.now)) ≡ are_placed_in_arguments b.holes (list_view l.arguments);
  bound : l.index ≤ length (out-Trees l.arguments).all.now;
}

abbrev pub decreases-are_placed : goal.decreases-are_placed
decreases-are_placed l = 2 * goal.size-are_placed l

abbrev pub decreases-are_placed_in_primary : goal.decreases-are_placed_in_primary
decreases-are_placed_in_primary l = 2 * goal.size-are_placed_in_primary l

abbrev pub decreases-are_placed_in_operation : goal.decreases-are_placed_in_operation
decreases-are_placed_in_operation l = 2 * goal.size-are_placed_in_operation l

abbrev pub decreases-are_placed_in_initializer : goal.decreases-are_placed_in_initializer
decreases-are_placed_in_initializer l = 2 * goal.size-are_placed_in_initializer l

abbrev pub decreases-is_operand : goal.decreases-is_operand
decreases-is_operand l = 2 * goal.size-is_operand l + 1

abbrev pub decreases-are_placed_in_elements : goal.decreases-are_placed_in_elements
decreases-are_placed_in_elements l = 2 * goal.size-are_placed_in_elements l

abbrev pub decreases-are_placed_in_arguments : goal.decreases-are_placed_in_arguments
decreases-are_placed_in_arguments l = 2 * goal.size-are_placed_in_arguments l

abbrev pub decreases-are_placed_in_path : goal.decreases-are_placed_in_path
decreases-are_placed_in_path l = 2 * goal.size-are_placed_in_path l

abbrev pub decreases-are_placed_in_designator : goal.decreases-are_placed_in_designator
decreases-are_placed_in_designator l = 2 * goal.size-are_placed_in_designator l

abbrev pub decreases-are_placed_in_arguments-loop-index : goal.decreases-are_placed_in_arguments-loop-index
decreases-are_placed_in_arguments-loop-index l = length (out-Trees l.arguments).all.now - l.index
