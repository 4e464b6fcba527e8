use Rattle.std.proofs.Common.{◌≡◌, ◌++◌, take, map}
use Rattle.metal_tree.specs.Views.{hole_type_view}
use Rattle.metal_numbers.specs.MetalDeclared.DeclaredHoles.{declared_views, hole_named}
use Rattle.metal_numbers.proofs.metal_declared.declared_holes.add_names.Given as goal

abbrev pub invariant-loop-name : goal.invariant-loop-name
invariant-loop-name l = declared_views l.holes.items ≡ declared_views l.fn.holes.items ++ map (hole_named (hole_type_view l.of) l.is_state) (take l.name-index l.names)
