use Rattle.std.proofs.Common.{◌≡◌, map, drop}
use Rattle.std.specs.List.{list_any}
use Rattle.call_graph.specs.Followed.{rule_calls, machine_calls}
use Rattle.metal_tree.specs.Views.{rule_view}
use Rattle.metal_tree.specs.Whole.{machine_view}
use Rattle.call_graph.proofs.patterns.machine_calls.Given as goal

abbrev pub invariant-loop-rule : goal.invariant-loop-rule
invariant-loop-rule l = list_any (rule_calls l.name) (map rule_view (drop l.rule-index l.rule-items)) ≡ machine_calls l.name (machine_view l.machine)
