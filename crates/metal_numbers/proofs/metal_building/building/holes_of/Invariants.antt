use Rattle.std.proofs.Common.{◌≡◌, take, map}
use Rattle.metal_grammar.specs.Meaning.{hole_of}
use Rattle.metal_tree.specs.Views.{hole_view}
use Rattle.metal_numbers.specs.MetalDeclared.DeclaredHoles.{declared_views}
use Rattle.metal_numbers.proofs.metal_building.building.holes_of.Given as goal

abbrev pub invariant-loop-hole : goal.invariant-loop-hole
invariant-loop-hole l = map hole_view l.made.items ≡ map hole_of (declared_views (take l.hole-index l.holes))
