use Rattle.std.proofs.Common.{Contains, take}
use Rattle.least_set.specs.Logs.{Adds}
use Rattle.root_functions.proofs.graph_roots.reaching.add_all.Given as goal

-- those that were gone through have been added
abbrev pub invariant-loop-function : goal.invariant-loop-function
invariant-loop-function l = Adds (Contains (take l.function-index l.functions)) l.fn.found.keys l.found.keys
