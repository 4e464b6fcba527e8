use Rattle.std.proofs.Common.{◌≡◌, drop}
use Rattle.c_tree.specs.Views.{nodes_in, nodes_of}
use Rattle.type_rules.specs.Specified.{other_type}
use Rattle.unit_typing.specs.Scopes.{scopes_of}
use Rattle.unit_typing.proofs.specified.other_type.Given as goal

-- the specifiers that are left decide
abbrev pub invariant-loop-item : goal.invariant-loop-item
invariant-loop-item l = other_type (scopes_of l.scopes) (nodes_in (drop l.item-index l.item-items)) ≡ other_type (scopes_of l.scopes) (nodes_of l.items)
