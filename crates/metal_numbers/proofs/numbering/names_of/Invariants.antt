use Rattle.std.proofs.Common.{◌≡◌, take, map}
use Rattle.metal_numbers.specs.MetalDeclared.DeclaredHoles.{declared_views}
use Rattle.metal_numbers.proofs.numbering.names_of.Given as goal

abbrev pub invariant-loop-hole : goal.invariant-loop-hole
invariant-loop-hole l = l.found.items ≡ map (λ h. h.name) (declared_views (take l.hole-index l.holes))
