use Rattle.std.proofs.Common.{◌<◌, length, arith}
use Rattle.std.proofs.lemmas.Grind.{common_steps}
use Rattle.root_functions.proofs.GraphRoots.Visiting.{add_next}
use Rattle.root_functions.proofs.graph_roots.reaching.add_all.Goals as goal

pub loop-function-preserved : goal.loop-function-preserved
loop-function-preserved c =
    let xs = c.args.functions.now in
    let i = c.loop-function.function-index in
    let within : i < length xs = grind (arith, common_steps) in
    add_next xs i _ c.args.found.now.keys c.loop-function.found.keys c.insert.new.self.keys within c.loop-function.invariant c.in_ok-insert.ensures.keys
