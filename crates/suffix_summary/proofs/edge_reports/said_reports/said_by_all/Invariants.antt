use Rattle.std.proofs.Common.{◌≡◌, ℕ, List, map, take}
use Rattle.std.specs.List.{filter_map}
use Rattle.block_flows.specs.Events.{AreOfEvents}
use Rattle.flow_graph.specs.CPaths.Events.{Event}
use Rattle.metal_tree.specs.Whole.{machine_view}
use Rattle.path_model.specs.CheckerModel.Happenings.{Function}
use Rattle.state_tuples.specs.TransitionReports.TakenRules.{checker_at}
use Rattle.suffix_summary.specs.EdgeReports.Said.{happening_at, said}
use Rattle.suffix_summary.proofs.edge_reports.said_reports.said_by_all.Given as goal

-- what those say that were gone through
abbrev pub invariant-loop-firing : goal.invariant-loop-firing
invariant-loop-firing l = (depth : ℕ) (f : Function) (es : List Event) → AreOfEvents (machine_view l.checker.machine.now) depth f (map (happening_at l.unit) es) l.rules
    → l.reports.items ≡ filter_map (said (checker_at l.checker depth) f l.followed.keys (map (happening_at l.unit) es)) (take l.firing-index l.firings)
