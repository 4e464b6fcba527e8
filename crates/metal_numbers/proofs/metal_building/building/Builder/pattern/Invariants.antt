use Rattle.std.proofs.Common.{◌≡◌, take, map}
use Rattle.metal_grammar.specs.Meaning.{item_of}
use Rattle.metal_grammar.specs.Written.{members}
use Rattle.metal_written.specs.Written.{alternative_view}
use Rattle.metal_tree.specs.Views.{items_view}
use Rattle.metal_numbers.specs.MetalBuilding.Builders.{numbers}
use Rattle.metal_numbers.proofs.metal_building.building.Builder.pattern.Given as goal

abbrev pub invariant-loop-alternative : goal.invariant-loop-alternative
invariant-loop-alternative l = map items_view l.made.items ≡ map (λ items. map (item_of (numbers l.self)) (members (alternative_view items))) (take l.alternative-index l.alternatives)
