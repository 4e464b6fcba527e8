-- Lists of trees, seen through their slices.
use Rattle.std.proofs.Common.{◌≡◌, ℕ, ◌+◌, ◌<◌, ◌≤◌, List, length, get_or, drop, ap}
use Rattle.std.proofs.lemmas.List.{drop_all}
use Rattle.c_tree.specs.declared.tree.Tree.{Tree}
use Rattle.c_tree.specs.declared.tree.Trees.{Trees, out-Trees}
use Rattle.c_tree.specs.Syntax.{no_more, more}
use Rattle.c_tree.specs.Forget.{syntaxes_of, view, view_all, list_view}
use Rattle.c_tree.proofs.Rows.{nodes_out, nodes_drop}

pub list_out : (trees : Trees) → list_view trees ≡ view_all (out-Trees trees).all.now
list_out trees = ap syntaxes_of (nodes_out trees)

pub view_drop : (items : List Tree) (i : ℕ) (d : Tree) → i < length items → view_all (drop i items) ≡ more (view (get_or items i d)) (view_all (drop (i + 1) items))
view_drop items i d h = ap syntaxes_of (nodes_drop items i d h)

pub view_end : (items : List Tree) (i : ℕ) → length items ≤ i → view_all (drop i items) ≡ no_more
view_end items i h = ap view_all (drop_all i items h)

pub ruleset lists = (list_out, view_drop, view_end)
