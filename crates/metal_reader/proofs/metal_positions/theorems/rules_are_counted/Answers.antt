use Rattle.metal_reader.proofs.MetalPositions.Counting.{rules_are_counted}
use Rattle.metal_reader.proofs.metal_positions.theorems.rules_are_counted.Goals as goal

pub returns : goal.returns
returns c = rules_are_counted
