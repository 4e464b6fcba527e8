use Rattle.std.proofs.Common.{take}
use Rattle.least_set.specs.Logs.{IsExactly, SomeGives}
use Rattle.function_tables.specs.EngineTables.Known.{AreKnown, checker_in, texts_in, graphs_in, objects_in}
use Rattle.path_edges.specs.EdgeSteps.Steps.{BeginsIn}
use Rattle.edge_rules.proofs.base.edges_of_roots.Given as goal

-- those of the roots that were gone through
abbrev pub invariant-loop-root : goal.invariant-loop-root
invariant-loop-root l = AreKnown l.tables → IsExactly l.edges.items (SomeGives (λ f. BeginsIn (checker_in l.tables) (texts_in l.tables) (graphs_in l.tables) (objects_in l.tables) f.number) (take l.root-index l.roots))
