use Rattle.std.proofs.Common.{◌≡◌, ◌+◌, ◌*◌, ◌++◌, take, map}
use Rattle.metal_numbers.specs.MetalDeclared.DeclaredNames.{declared_pair, every_other}
use Rattle.metal_numbers.proofs.metal_declared.limits.add_names.Given as goal

abbrev pub invariant-loop-name : goal.invariant-loop-name
invariant-loop-name l = record {
  all : map declared_pair l.all.items ≡ map declared_pair l.fn.all.items ++ every_other l.first (take l.name-index l.names);
  position : l.position ≡ l.first + 2 * l.name-index;
}
