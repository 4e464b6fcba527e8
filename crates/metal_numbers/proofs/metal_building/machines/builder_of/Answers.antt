use Rattle.metal_numbers.proofs.MetalBuilding.InOrder.{few_in_order}
use Rattle.metal_numbers.proofs.metal_building.machines.builder_of.Goals as goal

pub numbering_of-requires-clause-holes : goal.numbering_of-requires-clause-holes
numbering_of-requires-clause-holes c =
    few_in_order c.args.declared.now c.in_ok-holes.holes.now c.in_ok-names_of.field-0.now c.in_ok-holes.ensures c.in_ok-names_of.ensures c.requires.holes
