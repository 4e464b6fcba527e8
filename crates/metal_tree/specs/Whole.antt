-- The machine that a machine of the program is.
use Rattle.metal_tree.specs.MetalMachines.Machine as machines
use Rattle.metal_tree.specs.declared.machine.Machine.{Machine}
use Rattle.metal_tree.specs.Parts.{machine_of}

abbrev pub machine_view : Machine → machines.Machine
machine_view m = machine_of m.name m.variables m.holes.now m.globals.now m.states.now m.rules.now
