use Rattle.metal_tree.specs.Views.{source_view, dest_view, items_view}
use Rattle.metal_numbers.specs.MetalBuilding.Builders.{numbers}
use Rattle.metal_numbers.specs.MetalBuilding.Machines.{pieces_view}
use Rattle.std.proofs.Common.{map}
use Rattle.metal_numbers.proofs.MetalBuilding.Made.{made_rule}
use Rattle.metal_numbers.proofs.metal_building.building.Builder.rule.Goals as goal

pub returns-clause-made : goal.returns-clause-made
returns-clause-made c =
    made_rule (numbers c.args.self.now) c.args.rule.now (source_view c.source.result) (map items_view c.in_ok-pattern.field-0.alternatives.now) (dest_view c.dest.result)
    (pieces_view c.in_ok-action.field-0) c.source.ensures c.in_ok-pattern.ensures c.dest.ensures c.in_ok-action.ensures
