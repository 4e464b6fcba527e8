use Rattle.root_functions.proofs.GraphRoots.Found.{listed}
use Rattle.root_functions.proofs.graph_roots.search.roots.Goals as goal

pub returns : goal.returns
returns c = listed c.args.callees.now.items c.add_uncalled.new.self.roots.items c.add_others.new.self.roots.items c.in_ok-add_uncalled.ensures.uncalled c.in_ok-add_others.ensures
