use Rattle.std.proofs.Common.{◌≡◌, drop, map}
use Rattle.metal_grammar.specs.Rules.{is_among}
use Rattle.metal_numbers.specs.MetalDeclared.DeclaredNames.{declared_name}
use Rattle.metal_numbers.proofs.metal_declared.limits.is_declared.Given as goal

abbrev pub invariant-loop-other : goal.invariant-loop-other
invariant-loop-other l = is_among (map declared_name (drop l.other-index l.before)) l.name ≡ is_among (map declared_name l.before) l.name
