use Rattle.root_functions.proofs.GraphRoots.Found.{uncalled_next}
use Rattle.root_functions.proofs.graph_roots.search.Search.add_uncalled.Goals as goal

pub loop-i-preserved : goal.loop-i-preserved
loop-i-preserved c = record {
  reached = c.in_ok-add_unless.ensures.reached;
  uncalled = uncalled_next c.args.callees.now.items c.args.called.now.keys c.contains-known.result c.loop-i.i c.loop-i.self.roots.items c.add_unless.new.self.roots.items
      c.requires.called c.contains-known.ensures c.in_ok-add_unless.ensures.roots c.loop-i.invariant.uncalled;
}
