use Rattle.root_functions.specs.GraphRoots.Searches.{AreReached, HasUncalled}
use Rattle.root_functions.proofs.graph_roots.search.Search.add_uncalled.Given as goal

-- of the functions before i those to which none leads are roots
abbrev pub invariant-loop-i : goal.invariant-loop-i
invariant-loop-i l = record {
  reached : AreReached l.callees.items l.self.roots.items l.self.reached.keys;
  uncalled : HasUncalled l.callees.items l.i l.self.roots.items;
}
