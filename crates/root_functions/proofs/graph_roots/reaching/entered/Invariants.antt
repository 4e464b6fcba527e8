use Rattle.std.proofs.Common.{take, []}
use Rattle.root_functions.specs.GraphRoots.Graphs.{Entered}
use Rattle.least_set.specs.Logs.{Adds}
use Rattle.root_functions.proofs.graph_roots.reaching.entered.Given as goal

-- what the functions before this one lead to was added
abbrev pub invariant-loop-row : goal.invariant-loop-row
invariant-loop-row l = Adds (Entered (take l.row-index l.row-items)) [] l.found.keys
