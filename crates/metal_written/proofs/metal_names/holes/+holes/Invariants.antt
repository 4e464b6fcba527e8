use Rattle.std.proofs.Common.{◌≡◌, ◌+◌, ◌*◌, drop}
use Rattle.c_tree.specs.Forget.{list_view, view_all}
use Rattle.metal_grammar.specs.Meaning.{number_among}
use Rattle.metal_grammar.specs.Patterns.{all_with_holes, path_with_holes}
use Rattle.metal_written.proofs.Nodes.{before}
use Rattle.metal_written.proofs.metal_names.holes.+holes.Given as goal

abbrev pub invariant-all_with_holes-loop-tree : goal.invariant-all_with_holes-loop-tree
invariant-all_with_holes-loop-tree l = before l.all.items (all_with_holes (number_among l.holes) (view_all (drop l.tree-index l.tree-items))) ≡ all_with_holes (number_among l.holes) (list_view l.trees)

abbrev pub invariant-path_with_holes-loop-designator : goal.invariant-path_with_holes-loop-designator
invariant-path_with_holes-loop-designator l = before l.all.items (path_with_holes (number_among l.holes) (view_all (drop l.designator-index l.designator-items))) ≡ path_with_holes (number_among l.holes) (list_view l.path)

abbrev pub decreases-with_holes : goal.decreases-with_holes
decreases-with_holes l = 2 * goal.size-with_holes l + 1

abbrev pub decreases-node_with_holes : goal.decreases-node_with_holes
decreases-node_with_holes l = 2 * goal.size-node_with_holes l

abbrev pub decreases-primary_with_holes : goal.decreases-primary_with_holes
decreases-primary_with_holes l = 2 * goal.size-primary_with_holes l

abbrev pub decreases-operation_with_holes : goal.decreases-operation_with_holes
decreases-operation_with_holes l = 2 * goal.size-operation_with_holes l

abbrev pub decreases-initializer_with_holes : goal.decreases-initializer_with_holes
decreases-initializer_with_holes l = 2 * goal.size-initializer_with_holes l

abbrev pub decreases-all_with_holes : goal.decreases-all_with_holes
decreases-all_with_holes l = 2 * goal.size-all_with_holes l

abbrev pub decreases-path_with_holes : goal.decreases-path_with_holes
decreases-path_with_holes l = 2 * goal.size-path_with_holes l

abbrev pub decreases-designator_with_holes : goal.decreases-designator_with_holes
decreases-designator_with_holes l = 2 * goal.size-designator_with_holes l
