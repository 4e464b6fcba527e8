-- Parts of machines that may be missing.
use Rattle.std.specs.Prelude.{List, Option}
use Rattle.std.specs.Option.{option_map}
use Rattle.metal_tree.specs.MetalMachines.Machine as machines
use Rattle.metal_tree.specs.declared.messages.Action.{Action}
use Rattle.metal_tree.specs.Views.{action_view}

abbrev pub pieces_view : Option Action → Option (List machines.Piece)
pieces_view a = option_map action_view a
