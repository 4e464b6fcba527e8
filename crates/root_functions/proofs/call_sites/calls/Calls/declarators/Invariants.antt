use Rattle.std.proofs.Common.{◌≡◌, drop}
use Rattle.c_tree.specs.Views.{nodes_of, nodes_in}
use Rattle.root_functions.specs.CallSites.Calls.{nodes_at, with_declarators}
use Rattle.root_functions.proofs.call_sites.calls.Calls.declarators.Given as goal

-- those of the declarators that are left, behind those so far, are all
abbrev pub invariant-loop-tree : goal.invariant-loop-tree
invariant-loop-tree g l = with_declarators (g.F.Facts.known l.facts) (nodes_at l.self.found.items) (nodes_in (drop l.tree-index l.tree-items)) ≡ with_declarators (g.F.Facts.known l.facts) (nodes_at l.fn.self.found.items) (nodes_of l.trees)
