use Rattle.metal_grammar.specs.Meaning.{item_of}
use Rattle.metal_tree.specs.Views.{item_view}
use Rattle.metal_written.specs.Written as written
use Rattle.metal_numbers.specs.MetalBuilding.Builders.{numbers}
use Rattle.metal_numbers.proofs.MetalBuilding.Pushing.{twice_push}
use Rattle.metal_numbers.proofs.metal_building.building.Builder.alternative.Goals as goal

pub loop-item-preserved : goal.loop-item-preserved
loop-item-preserved c =
    twice_push item_view (item_of (numbers c.args.self.now)) written.item_view c.loop-item.items.items c.push.new.self.items c.in_ok-item.field-0 c.args.alternative.now.items.now
    c.loop-item.item-index c.item-item.result c.in_ok-push.ensures.items c.loop-item.invariant c.loop-item-test.true c.in_ok-item.ensures c.item-item.is
