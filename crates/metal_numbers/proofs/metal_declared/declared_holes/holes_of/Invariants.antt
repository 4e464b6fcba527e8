use Rattle.std.proofs.Common.{◌≡◌, take}
use Rattle.metal_grammar.specs.Rules.{holes_of}
use Rattle.metal_written.specs.Written.{clause_views}
use Rattle.metal_numbers.specs.MetalDeclared.DeclaredHoles.{declared_views}
use Rattle.metal_numbers.proofs.metal_declared.declared_holes.holes_of.Given as goal

abbrev pub invariant-loop-clause : goal.invariant-loop-clause
invariant-loop-clause l = declared_views l.holes.items ≡ holes_of l.names (clause_views (take l.clause-index l.clauses))
