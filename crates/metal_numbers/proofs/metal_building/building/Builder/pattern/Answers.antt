use Rattle.std.proofs.Common.{map}
use Rattle.metal_grammar.specs.Meaning.{item_of}
use Rattle.metal_grammar.specs.Written.{members}
use Rattle.metal_tree.specs.Views.{items_view}
use Rattle.metal_written.specs.Written.{alternative_view}
use Rattle.metal_numbers.specs.MetalBuilding.Builders.{numbers}
use Rattle.metal_numbers.proofs.MetalBuilding.Pushing.{mapped_push}
use Rattle.metal_numbers.proofs.metal_building.building.Builder.pattern.Goals as goal

pub loop-alternative-preserved : goal.loop-alternative-preserved
loop-alternative-preserved c =
    mapped_push items_view (λ items. map (item_of (numbers c.args.self.now)) (members (alternative_view items))) c.loop-alternative.made.items c.push.new.self.items c.in_ok-alternative.field-0
    c.args.alternatives.now c.loop-alternative.alternative-index c.alternative-item.result c.in_ok-push.ensures.items c.loop-alternative.invariant c.loop-alternative-test.true
    c.in_ok-alternative.ensures c.alternative-item.is
