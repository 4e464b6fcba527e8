use Rattle.std.proofs.Common.{◌≡◌, ℕ, ◌+◌, ◌*◌, drop}
use Rattle.c_tree.specs.declared.tree.Tree.{size-Tree}
use Rattle.c_tree.specs.declared.tree.Trees.{size-Trees}
use Rattle.c_tree.specs.declared.expression.Primary.{size-Primary}
use Rattle.c_tree.specs.declared.expression.Operation.{size-Operation}
use Rattle.c_tree.specs.declared.declaration.Initializer.{size-Initializer}
use Rattle.c_tree.specs.declared.declaration.Part.{size-Part}
use Rattle.c_tree.specs.Views.{nodes_of, nodes_in}
use Rattle.hole_matching.specs.ComparedSubjects.{compared_nodes}
use Rattle.hole_matching.specs.Pattern.{same_patterns}
use Rattle.objects.specs.Units.{facts_in}
use Rattle.std.specs.Prelude.{max}
use Rattle.tree_comparison.proofs.comparison.+same.Given as goal

-- what is left decides
abbrev pub invariant-same_list-loop-i : goal.invariant-same_list-loop-i
invariant-same_list-loop-i l =
    same_patterns (compared_nodes (facts_in l.unit) (nodes_in (drop l.i l.all))) (compared_nodes (facts_in l.unit) (nodes_in (drop l.i l.others)))
    ≡ same_patterns (compared_nodes (facts_in l.unit) (nodes_of l.left)) (compared_nodes (facts_in l.unit) (nodes_of l.right))

abbrev pub decreases-same_tree : goal.decreases-same_tree
decreases-same_tree l = 8 * size-Tree l.tree.now

abbrev pub decreases-same_primary : goal.decreases-same_primary
decreases-same_primary l = 8 * size-Primary l.kind.now

abbrev pub decreases-same_operation : goal.decreases-same_operation
decreases-same_operation l = 8 * size-Operation l.kind.now

abbrev pub decreases-same_initializer : goal.decreases-same_initializer
decreases-same_initializer l = 8 * size-Initializer l.kind.now

abbrev pub decreases-same_part : goal.decreases-same_part
decreases-same_part l = 8 * size-Part l.kind.now

abbrev pub decreases-same_list : goal.decreases-same_list
decreases-same_list l = 8 * size-Trees l.left.now

abbrev pub decreases-has_one : goal.decreases-has_one
decreases-has_one l = 8 * size-Tree l.part.now + 1

abbrev pub decreases-have_two : goal.decreases-have_two
decreases-have_two l = max (8 * size-Tree l.left.now) (8 * size-Tree l.right.now) + 1

abbrev pub decreases-is_pointed_to : goal.decreases-is_pointed_to
decreases-is_pointed_to l = 8 * size-Tree l.pointer.now + 2

abbrev pub decreases-same_list_and_last : goal.decreases-same_list_and_last
decreases-same_list_and_last l = max (8 * size-Trees l.left.now) (8 * size-Tree l.last.now) + 1

abbrev pub decreases-has_front : goal.decreases-has_front
decreases-has_front l = max (8 * size-Tree l.first.now) (8 * size-Trees l.list.now) + 2

abbrev pub decreases-are_front : goal.decreases-are_front
decreases-are_front l = max (8 * size-Tree l.first.now) (8 * size-Trees l.list.now) + 1

abbrev pub decreases-has_pointed : goal.decreases-has_pointed
decreases-has_pointed l = 8 * size-Tree l.pointer.now + 3

abbrev pub decreases-has_three : goal.decreases-has_three
decreases-has_three l = max (max (8 * size-Tree l.condition.now) (8 * size-Tree l.then.now)) (8 * size-Tree l.otherwise.now) + 1

abbrev pub decreases-has_braces : goal.decreases-has_braces
decreases-has_braces l = 8 * size-Trees l.elements.now + 1

abbrev pub decreases-is_designated : goal.decreases-is_designated
decreases-is_designated l = max (8 * size-Trees l.designators.now) (8 * size-Tree l.initial.now) + 2
