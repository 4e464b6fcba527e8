use Rattle.std.proofs.Common.{◌≡◌, take}
use Rattle.path_model.specs.CheckerModel.Happenings.{Function, Site}
use Rattle.path_model.specs.CheckerModel.Reports.{Checker}
use Rattle.least_set.specs.Logs.{IsExactly, SomeGives}
use Rattle.block_flows.specs.TupleFlows.Passed.{IsSite}
use Rattle.edge_rules.specs.WaitRules.Waiters.{IsWaiting}
use Rattle.edge_rules.proofs.wait_rules.at_calls.waits_of_all.Given as goal

-- those of the tuples that were gone through
abbrev pub invariant-loop-tuple : goal.invariant-loop-tuple
invariant-loop-tuple l = (c : Checker) (s : Site) (h : Function) → c.depth ≡ l.depth → IsSite l.depth l.call.site s
    → IsExactly l.waits.items (SomeGives (IsWaiting c s h l.call.caller_objects.now.keys l.call.callee_objects.now.keys l.call.callee l.call.behind l.edge) (take l.tuple-index l.tuples))
