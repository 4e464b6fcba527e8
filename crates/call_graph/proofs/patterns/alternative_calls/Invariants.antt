use Rattle.std.proofs.Common.{◌≡◌, map, drop}
use Rattle.call_graph.specs.Followed.{items_call}
use Rattle.metal_tree.specs.Views.{item_view, items_view}
use Rattle.call_graph.proofs.patterns.alternative_calls.Given as goal

abbrev pub invariant-loop-item : goal.invariant-loop-item
invariant-loop-item l = items_call l.name (map item_view (drop l.item-index l.item-items)) ≡ items_call l.name (items_view l.alternative)
