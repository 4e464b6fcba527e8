use Rattle.std.proofs.Common.{sym, subst}
use Rattle.root_functions.specs.GraphRoots.Searches.{AreReached}
use Rattle.root_functions.proofs.GraphRoots.Reached.{reached_within, reached_closed, reached_more}
use Rattle.root_functions.proofs.graph_roots.search.Search.add.Goals as goal

pub visit-requires-clause-within : goal.visit-requires-clause-within
visit-requires-clause-within c = reached_within c.args.callees.now.items c.args.self.now.roots.items c.args.self.now.reached.keys c.requires.stays c.requires.reached

pub visit-requires-clause-closed : goal.visit-requires-clause-closed
visit-requires-clause-closed c = reached_closed c.args.callees.now.items c.args.self.now.roots.items c.args.self.now.reached.keys c.requires.reached

pub returns-clause-reached : goal.returns-clause-reached
returns-clause-reached c =
    let rows = c.args.callees.now.items in
    let new = c.visit.new.reached.keys in
    subst (λ xs. AreReached rows xs new) (sym c.in_ok-push.ensures.items)
    (reached_more rows c.args.self.now.roots.items c.args.self.now.reached.keys new c.args.root c.requires.root c.requires.reached c.in_ok-visit.ensures)
