-- The holes of a text as they are kept.
use Rattle.std.specs.Prelude.{ℕ, Bool, List, map, Option}
use Rattle.std.specs.Option.{option_map}
use Rattle.metal_tree.specs.MetalMachines.Machine as machines
use Rattle.metal_grammar.specs.Holes as holes
use Rattle.metal_tree.specs.declared.holes.HoleType.{HoleType}
use Rattle.metal_tree.specs.Views.{hole_type_view}
use Rattle.metal_numbers.specs.declared.metal_declared.declared_holes.DeclaredHole.{DeclaredHole}

abbrev pub declared_view : DeclaredHole → holes.DeclaredHole
declared_view h = record { name = h.name; of = hole_type_view h.of; is_state = h.is_state }

abbrev pub declared_views : List DeclaredHole → List holes.DeclaredHole
declared_views hs = map declared_view hs

-- a hole of this type
abbrev pub hole_named : machines.HoleType → Bool → ℕ → holes.DeclaredHole
hole_named of is_state name = record { name = name; of = of; is_state = is_state }

abbrev pub hole_types_view : Option HoleType → Option machines.HoleType
hole_types_view t = option_map hole_type_view t
