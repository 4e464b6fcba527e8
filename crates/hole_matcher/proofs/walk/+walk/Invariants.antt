use Rattle.std.proofs.Common.{◌≡◌, ◌≤◌, ℕ, ◌+◌, ◌*◌, length, drop}
use Rattle.std.specs.Prelude.{max}
use Rattle.c_tree.specs.declared.tree.Tree.{size-Tree}
use Rattle.c_tree.specs.declared.tree.Trees.{size-Trees}
use Rattle.c_tree.specs.declared.tree.Kind.{size-Kind}
use Rattle.c_tree.specs.declared.expression.Primary.{size-Primary}
use Rattle.c_tree.specs.declared.expression.Operation.{size-Operation}
use Rattle.c_tree.specs.declared.declaration.Initializer.{size-Initializer}
use Rattle.c_tree.specs.declared.declaration.Part.{size-Part}
use Rattle.c_tree.specs.Forget.{list_view, view_all}
use Rattle.c_tree.specs.Views.{nodes_of, nodes_in}
use Rattle.hole_matcher.specs.HoleBindings.Bindings.{binding_of}
use Rattle.hole_matcher.specs.HoleBindings.Settings.{setting_in}
use Rattle.hole_matcher.specs.Ways.Walks.{seat_of}
use Rattle.hole_matching.specs.Matched.{matched_all}
use Rattle.hole_matching.specs.Subjects.{trees}
use Rattle.hole_matching.specs.Written.{patterns_of}
use Rattle.hole_matcher.proofs.walk.+walk.Given as goal

-- what is left decides
abbrev pub invariant-match_list-loop-i : goal.invariant-match_list-loop-i
invariant-match_list-loop-i l =
    (l.i ≤ length l.given)
    × (matched_all (setting_in l.setting) (seat_of l.seat) (patterns_of (view_all (drop l.i l.all))) (trees (nodes_in (drop l.i l.given))) (binding_of l.into)
    ≡ matched_all (setting_in l.setting) (seat_of l.seat) (patterns_of (list_view l.patterns)) (trees (nodes_of l.others)) (binding_of l.initial.into))

abbrev pub decreases-match_tree : goal.decreases-match_tree
decreases-match_tree l = 8 * size-Tree l.pattern.now

abbrev pub decreases-match_kind : goal.decreases-match_kind
decreases-match_kind l = 8 * size-Kind l.kind.now + 1

abbrev pub decreases-match_primary : goal.decreases-match_primary
decreases-match_primary l = 8 * size-Primary l.kind.now

abbrev pub decreases-match_operation : goal.decreases-match_operation
decreases-match_operation l = 8 * size-Operation l.kind.now

abbrev pub decreases-match_initializer : goal.decreases-match_initializer
decreases-match_initializer l = 8 * size-Initializer l.kind.now

abbrev pub decreases-match_part : goal.decreases-match_part
decreases-match_part l = 8 * size-Part l.kind.now

abbrev pub decreases-match_list : goal.decreases-match_list
decreases-match_list l = 8 * size-Trees l.patterns.now

abbrev pub decreases-match_one : goal.decreases-match_one
decreases-match_one l = 8 * size-Tree l.part.now + 1

abbrev pub decreases-match_two : goal.decreases-match_two
decreases-match_two l = max (8 * size-Tree l.left.now) (8 * size-Tree l.right.now) + 2

abbrev pub decreases-match_both : goal.decreases-match_both
decreases-match_both l = max (8 * size-Tree l.left.now) (8 * size-Tree l.right.now) + 1

abbrev pub decreases-match_first : goal.decreases-match_first
decreases-match_first l = max (8 * size-Tree l.first.now) (8 * size-Trees l.list.now) + 1

abbrev pub decreases-match_member : goal.decreases-match_member
decreases-match_member l = 8 * size-Tree l.pointer.now + 3

abbrev pub decreases-match_condition : goal.decreases-match_condition
decreases-match_condition l = max (max (8 * size-Tree l.condition.now) (8 * size-Tree l.then.now)) (8 * size-Tree l.otherwise.now) + 2

abbrev pub decreases-match_braces : goal.decreases-match_braces
decreases-match_braces l = 8 * size-Trees l.elements.now + 1

abbrev pub decreases-match_designated : goal.decreases-match_designated
decreases-match_designated l = max (8 * size-Trees l.designators.now) (8 * size-Tree l.initial.now) + 2

abbrev pub decreases-match_pointed : goal.decreases-match_pointed
decreases-match_pointed l = 8 * size-Tree l.pointer.now + 2

abbrev pub decreases-match_list_and_last : goal.decreases-match_list_and_last
decreases-match_list_and_last l = max (8 * size-Trees l.patterns.now) (8 * size-Tree l.last.now) + 1

abbrev pub decreases-match_front : goal.decreases-match_front
decreases-match_front l = max (8 * size-Tree l.first.now) (8 * size-Trees l.list.now) + 2
