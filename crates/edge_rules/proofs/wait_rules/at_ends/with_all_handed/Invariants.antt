use Rattle.std.proofs.Common.{◌≡◌, take}
use Rattle.path_model.specs.CheckerModel.Happenings.{Function, Site}
use Rattle.path_model.specs.CheckerModel.Reports.{Checker}
use Rattle.path_edges.specs.EdgeSteps.Steps.{woken_edge}
use Rattle.least_set.specs.Logs.{IsExactly, SomeGives}
use Rattle.state_tuples.specs.declared.tuple.Tuple.{Tuple}
use Rattle.block_flows.specs.TupleFlows.Passed.{IsReturned, IsSite}
use Rattle.edge_rules.proofs.wait_rules.at_ends.with_all_handed.Given as goal

-- those of the tuples that were gone through
abbrev pub invariant-loop-tuple : goal.invariant-loop-tuple
invariant-loop-tuple l = (c : Checker) (s : Site) (f : Function) → c.depth ≡ l.depth → IsSite l.depth l.site s
    → IsExactly l.edges.items (SomeGives (λ t d. (u : Tuple) × IsReturned c s f l.caller_objects.keys l.callee_objects.keys t u × (woken_edge l.waiter u ≡ d)) (take l.tuple-index l.tuples))
