use Rattle.std.proofs.Common.{◌≡◌, take, map}
use Rattle.metal_grammar.specs.Meaning.{item_of}
use Rattle.metal_written.specs.Written as written
use Rattle.metal_tree.specs.Views.{item_view}
use Rattle.metal_numbers.specs.MetalBuilding.Builders.{numbers}
use Rattle.metal_numbers.proofs.metal_building.building.Builder.alternative.Given as goal

abbrev pub invariant-loop-item : goal.invariant-loop-item
invariant-loop-item l = map item_view l.items.items ≡ map (item_of (numbers l.self)) (map written.item_view (take l.item-index l.item-items))
