use Rattle.std.proofs.Common.{◌≡◌, map, drop}
use Rattle.hole_matching.specs.Alternatives.{has_end_of_path}
use Rattle.metal_tree.specs.Views.{item_view}
use Rattle.state_tuples.proofs.alternatives.has_end_of_path.Given as goal

-- what is left decides
abbrev pub invariant-loop-item : goal.invariant-loop-item
invariant-loop-item l = has_end_of_path (map item_view (drop l.item-index l.items)) ≡ has_end_of_path (map item_view l.items)
