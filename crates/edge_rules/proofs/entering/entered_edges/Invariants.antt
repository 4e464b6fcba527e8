use Rattle.std.proofs.Common.{◌≡◌, take}
use Rattle.path_model.specs.CheckerModel.Happenings.{Function, Site}
use Rattle.path_model.specs.CheckerModel.Reports.{Checker}
use Rattle.edge_rules.specs.Entries.{IsEntry}
use Rattle.flow_graph.specs.Seen.{graph_in}
use Rattle.least_set.specs.Logs.{IsExactly, SomeGives}
use Rattle.block_flows.specs.TupleFlows.Passed.{IsSite}
use Rattle.edge_rules.proofs.entering.entered_edges.Given as goal

-- those of the tuples that were gone through
abbrev pub invariant-loop-tuple : goal.invariant-loop-tuple
invariant-loop-tuple l = (c : Checker) (s : Site) (h : Function) → c.depth ≡ l.depth → IsSite l.depth l.site s
    → IsExactly l.edges.items (SomeGives (IsEntry c s h l.caller_objects.keys l.callee.frame.objects.now.keys l.callee.number (graph_in l.callee.frame.table.now.graph.now).entry) (take l.tuple-index l.tuples))
