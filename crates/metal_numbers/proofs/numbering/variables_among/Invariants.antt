use Rattle.std.proofs.Common.{◌≡◌, take}
use Rattle.metal_grammar.specs.Rules.{variables_among}
use Rattle.metal_numbers.specs.MetalDeclared.DeclaredHoles.{declared_views}
use Rattle.metal_numbers.proofs.numbering.variables_among.Given as goal

abbrev pub invariant-loop-hole : goal.invariant-loop-hole
invariant-loop-hole l = l.variables.items ≡ variables_among (declared_views (take l.hole-index l.holes))
