use Rattle.std.proofs.Common.{◌≡◌, ◌++◌, take, filter}
use Rattle.metal_numbers.specs.MetalDeclared.DeclaredHoles.{declared_views}
use Rattle.metal_numbers.specs.Numbers.{is_kind}
use Rattle.metal_numbers.proofs.numbering.add_kind.Given as goal

abbrev pub invariant-loop-hole : goal.invariant-loop-hole
invariant-loop-hole l = declared_views l.ordered.items ≡ declared_views l.fn.ordered.items ++ filter (λ h. is_kind l.is_state h.is_state) (declared_views (take l.hole-index l.holes))
