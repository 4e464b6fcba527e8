use Rattle.std.proofs.Common.{◌≡◌, drop}
use Rattle.c_tree.specs.Views.{nodes_in, nodes_of}
use Rattle.type_rules.specs.Functions.{any_inline}
use Rattle.unit_typing.proofs.functions.any_inline.Given as goal

-- the specifiers that are left decide
abbrev pub invariant-loop-item : goal.invariant-loop-item
invariant-loop-item l = any_inline (nodes_in (drop l.item-index l.item-items)) ≡ any_inline (nodes_of l.items)
