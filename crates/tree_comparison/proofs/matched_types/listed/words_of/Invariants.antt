use Rattle.std.proofs.Common.{◌≡◌, ◌++◌, drop, take}
use Rattle.c_tree.specs.Forget.{view_all, list_view}
use Rattle.hole_matching.specs.Written.{words_of}
use Rattle.tree_comparison.specs.MatchedTypes.Words.{words_in}
use Rattle.tree_comparison.proofs.matched_types.listed.words_of.Given as goal

-- with those that are left it is the whole
abbrev pub invariant-loop-item : goal.invariant-loop-item
invariant-loop-item l = take 5 (words_in l.words ++ words_of (view_all (drop l.item-index l.item-items))) ≡ take 5 (words_of (list_view l.items))
