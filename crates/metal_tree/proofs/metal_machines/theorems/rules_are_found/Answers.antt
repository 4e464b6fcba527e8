use Rattle.metal_tree.proofs.MetalMachines.Found.{found}
use Rattle.metal_tree.proofs.metal_machines.theorems.rules_are_found.Goals as goal

pub returns : goal.returns
returns c number k rs h = found number k rs h
