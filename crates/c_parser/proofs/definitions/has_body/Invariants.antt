use Rattle.std.proofs.Common.{◌≡◌, drop}
use Rattle.c_tree.specs.Forget.{view_all}
use Rattle.c_grammar.specs.UnitGrammar.Grammar.{has_body}
use Rattle.c_parser.proofs.definitions.has_body.Given as goal

abbrev pub invariant-loop-item : goal.invariant-loop-item
invariant-loop-item l = has_body (view_all (drop l.item-index l.items)) ≡ has_body (view_all l.items)
