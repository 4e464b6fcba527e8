use Rattle.std.proofs.Common.{◌≡◌, drop}
use Rattle.c_tree.specs.Forget.{view_all}
use Rattle.c_grammar.specs.Specifiers.{storages}
use Rattle.c_grammar.specs.UnitGrammar.Names.{has_typedef}
use Rattle.c_parser.proofs.declared.has_typedef.Given as goal

abbrev pub invariant-loop-item : goal.invariant-loop-item
invariant-loop-item l = has_typedef (storages (view_all (drop l.item-index l.items))) ≡ has_typedef (storages (view_all l.items))
