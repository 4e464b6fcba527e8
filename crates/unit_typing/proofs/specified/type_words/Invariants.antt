use Rattle.std.proofs.Common.{◌≡◌, ◌++◌, drop}
use Rattle.c_tree.specs.Views.{nodes_in, nodes_of}
use Rattle.type_rules.specs.Specified.{type_words}
use Rattle.unit_typing.proofs.specified.type_words.Given as goal

-- the words so far, and then those of the specifiers that are left
abbrev pub invariant-loop-item : goal.invariant-loop-item
invariant-loop-item l = l.words.items ++ type_words (nodes_in (drop l.item-index l.item-items)) ≡ type_words (nodes_of l.items)
