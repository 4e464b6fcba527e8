use Rattle.std.proofs.Common.{◌≡◌, ◌≤◌, drop, length}
use Rattle.c_tree.specs.Views.{nodes_in}
use Rattle.type_rules.specs.Declarators.{suffixed}
use Rattle.type_values.specs.Types.{ctype_of}
use Rattle.unit_typing.proofs.declarators.suffixed.Given as goal

-- what the suffixes from here on make of the type
abbrev pub invariant-loop-left : goal.invariant-loop-left
invariant-loop-left l = record {
  within : l.left ≤ length l.all;
  made : ctype_of l.found ≡ suffixed (nodes_in (drop l.left l.all)) (ctype_of l.ty);
}

abbrev pub decreases-loop-left : goal.decreases-loop-left
decreases-loop-left l = l.left
