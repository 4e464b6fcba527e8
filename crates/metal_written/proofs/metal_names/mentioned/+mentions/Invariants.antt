use Rattle.std.proofs.Common.{◌≡◌, drop}
use Rattle.c_tree.specs.Forget.{list_view, view_all}
use Rattle.metal_grammar.specs.Patterns.{names_in_all, names_in_path}
use Rattle.metal_grammar.specs.Rules.{is_among}
use Rattle.metal_written.proofs.metal_names.mentioned.+mentions.Given as goal

abbrev pub invariant-one_mentions-loop-tree : goal.invariant-one_mentions-loop-tree
invariant-one_mentions-loop-tree l = is_among (names_in_all (view_all (drop l.tree-index l.tree-items))) l.name ≡ is_among (names_in_all (list_view l.trees)) l.name

abbrev pub invariant-path_mentions-loop-designator : goal.invariant-path_mentions-loop-designator
invariant-path_mentions-loop-designator l = is_among (names_in_path (view_all (drop l.designator-index l.designator-items))) l.name ≡ is_among (names_in_path (list_view l.path)) l.name
