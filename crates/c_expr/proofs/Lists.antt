-- A list of nodes is seen through its slice.
use Rattle.std.proofs.Common.{◌≡◌, Bor, List, ap}
use Rattle.c_tree.specs.declared.tree.Tree.{Tree}
use Rattle.c_tree.specs.declared.tree.Trees.{roll-Trees}
use Rattle.c_tree.specs.Forget.{syntaxes_of, list_view, view_all}
use Rattle.c_tree.specs.Views.{nodes_of, nodes_in}
use Rattle.c_tree.proofs.Rows.{nodes_roll}

pub made_list : (r : Bor (List Tree)) → list_view (roll-Trees (record { all = r })) ≡ view_all r.now
made_list r = ap syntaxes_of (nodes_roll r)

pub made_nodes : (r : Bor (List Tree)) → nodes_of (roll-Trees (record { all = r })) ≡ nodes_in r.now
made_nodes r = nodes_roll r

pub ruleset lists = (made_list, made_nodes)
