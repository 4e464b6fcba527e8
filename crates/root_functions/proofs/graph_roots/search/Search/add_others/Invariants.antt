use Rattle.root_functions.specs.GraphRoots.Searches.{AreReached, HasOthers}
use Rattle.root_functions.proofs.graph_roots.search.Search.add_others.Given as goal

-- all roots among the functions before i are there
abbrev pub invariant-loop-i : goal.invariant-loop-i
invariant-loop-i l = record {
  reached : AreReached l.callees.items l.self.roots.items l.self.reached.keys;
  others : HasOthers l.callees.items l.i l.fn.self.roots.items l.self.roots.items;
}
