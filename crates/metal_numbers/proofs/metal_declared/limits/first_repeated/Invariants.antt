use Rattle.std.proofs.Common.{◌≡◌, ◌≤◌, ◌-◌, [], length, take, drop, map}
use Rattle.metal_grammar.specs.Faults.{repeated}
use Rattle.metal_numbers.specs.MetalDeclared.DeclaredNames.{declared_name, declared_pair}
use Rattle.metal_numbers.proofs.metal_declared.limits.first_repeated.Given as goal

abbrev pub invariant-loop-index : goal.invariant-loop-index
invariant-loop-index l = record {
  rest : repeated (map declared_name (take l.index l.all)) (map declared_pair (drop l.index l.all)) ≡ repeated [] (map declared_pair l.all);
  bound : l.index ≤ length l.all;
}

abbrev pub decreases-loop-index : goal.decreases-loop-index
decreases-loop-index l = length l.all - l.index
