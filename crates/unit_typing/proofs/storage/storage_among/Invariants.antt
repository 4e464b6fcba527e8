use Rattle.std.proofs.Common.{◌≡◌, drop}
use Rattle.c_tree.specs.Views.{nodes_in, nodes_of}
use Rattle.type_rules.specs.Specified.{storage_among}
use Rattle.unit_typing.proofs.storage.storage_among.Given as goal

-- the specifiers that are left decide
abbrev pub invariant-loop-item : goal.invariant-loop-item
invariant-loop-item l = storage_among (nodes_in (drop l.item-index l.item-items)) ≡ storage_among (nodes_of l.items)
