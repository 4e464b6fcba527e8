use Rattle.std.proofs.Common.{◌≡◌, map, drop}
use Rattle.std.specs.List.{list_any}
use Rattle.call_graph.specs.Followed.{items_call, rule_calls}
use Rattle.metal_tree.specs.Views.{items_view, rule_view}
use Rattle.call_graph.proofs.patterns.rule_calls.Given as goal

abbrev pub invariant-loop-alternative : goal.invariant-loop-alternative
invariant-loop-alternative l = list_any (items_call l.name) (map items_view (drop l.alternative-index l.alternative-items)) ≡ rule_calls l.name (rule_view l.rule)
