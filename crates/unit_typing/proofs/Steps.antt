-- How lists of nodes are gone through.
use Rattle.c_tree.proofs.Rows.{nodes_out, nodes_drop}

pub ruleset steps = (nodes_out, nodes_drop)
