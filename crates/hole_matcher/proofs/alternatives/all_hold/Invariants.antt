use Rattle.std.proofs.Common.{◌≡◌, map, drop}
use Rattle.hole_matcher.specs.HoleBindings.Bindings.{binding_of}
use Rattle.hole_matcher.specs.HoleBindings.Settings.{setting_in}
use Rattle.hole_matcher.proofs.alternatives.all_hold.Given as goal
use Rattle.hole_matching.specs.Alternatives.{all_hold}
use Rattle.metal_tree.specs.Views.{item_view}

-- what is left decides
abbrev pub invariant-loop-item : goal.invariant-loop-item
invariant-loop-item l = all_hold (setting_in l.setting) (map item_view (drop l.item-index l.items)) (binding_of l.binding) ≡ all_hold (setting_in l.setting) (map item_view l.items) (binding_of l.binding)
