use Rattle.std.proofs.Common.{◌≡◌, ◌↔◌, ℕ, ◌+◌, ◌*◌, drop}
use Rattle.c_tree.specs.Forget.{view, view_all, maybe_view, list_view}
use Rattle.tree_laws.specs.TreeEquality.Levels.{seen, seen_maybe, seen_all, seen_branches, seen_level, branches_view}
use Rattle.tree_laws.proofs.TreeEquality.Sizes.{size, maybe_size, all_size, branches_size, level_size}
use Rattle.tree_laws.proofs.tree_equality.equality.+same.Given as goal

-- what is left decides
abbrev pub invariant-same_list-loop-i : goal.invariant-same_list-loop-i
invariant-same_list-loop-i l =
    (seen_all l.how (view_all (drop l.i l.all)) ≡ seen_all l.other_how (view_all (drop l.i l.others))) ↔ (seen_all l.how (list_view l.a) ≡ seen_all l.other_how (list_view l.b))

abbrev pub decreases-same_levels : goal.decreases-same_levels
decreases-same_levels l = 4 * level_size (seen_level l.a.now) + 3

abbrev pub decreases-same_seen : goal.decreases-same_seen
decreases-same_seen l = 4 * size (seen l.how (view l.a.now))

abbrev pub decreases-same_optional : goal.decreases-same_optional
decreases-same_optional l = 4 * maybe_size (seen_maybe l.how (maybe_view l.a)) + 1

abbrev pub decreases-same_list : goal.decreases-same_list
decreases-same_list l = 4 * all_size (seen_all l.how (list_view l.a.now)) + 1

abbrev pub decreases-same_branches : goal.decreases-same_branches
decreases-same_branches l = 4 * branches_size (seen_branches l.how (branches_view l.a.now)) + 2
