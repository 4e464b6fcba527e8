use Rattle.std.proofs.Common.{◌≡◌, drop}
use Rattle.c_tree.specs.Forget.{list_view, view_all}
use Rattle.metal_grammar.specs.Patterns.{all_have_plain_types, path_has_plain_types}
use Rattle.metal_forms.proofs.plain_types.+plain.Given as goal

abbrev pub invariant-all_have_plain_types-loop-tree : goal.invariant-all_have_plain_types-loop-tree
invariant-all_have_plain_types-loop-tree l = all_have_plain_types (view_all (drop l.tree-index l.tree-items)) ≡ all_have_plain_types (list_view l.trees)

abbrev pub invariant-path_has_plain_types-loop-designator : goal.invariant-path_has_plain_types-loop-designator
invariant-path_has_plain_types-loop-designator l = path_has_plain_types (view_all (drop l.designator-index l.designator-items)) ≡ path_has_plain_types (list_view l.path)
