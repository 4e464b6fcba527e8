use Rattle.std.proofs.Common.{◌≡◌, ℕ, List, map, take, Contains}
use Rattle.std.specs.List.{filter_map}
use Rattle.block_flows.specs.Events.{AreOfEvents}
use Rattle.block_flows.specs.declared.taken_rules.Firing.{Firing}
use Rattle.flow_graph.specs.CPaths.Events.{Event}
use Rattle.path_model.specs.CheckerModel.Happenings.{Function}
use Rattle.saturation.specs.EdgeReports.Said.{happening_at, said_by}
use Rattle.metal_tree.specs.Whole.{machine_view}
use Rattle.state_tuples.specs.Numbers.{IsRuleOf}
use Rattle.state_tuples.specs.TransitionReports.TakenRules.{checker_at}
use Rattle.saturation.proofs.edge_reports.taken_reports.said_by_all.Given as goal

-- what those say that were gone through
abbrev pub invariant-loop-firing : goal.invariant-loop-firing
invariant-loop-firing l = (depth : ℕ) (f : Function) (es : List Event) → AreOfEvents (machine_view l.checker.machine.now) depth f (map (happening_at l.unit) es) l.rules
    → ((x : Firing) → Contains l.firings x → IsRuleOf l.checker.machine.now x.taken.now.rule.now)
    → l.reports.items ≡ filter_map (said_by (checker_at l.checker depth) f (map (happening_at l.unit) es)) (take l.firing-index l.firings)
