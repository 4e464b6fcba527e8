use Rattle.std.proofs.Common.{◌≡◌, drop}
use Rattle.c_tree.specs.Forget.{list_view, view_all}
use Rattle.metal_grammar.specs.Patterns.{are_plain_words}
use Rattle.metal_forms.proofs.plain_types.are_plain_words.Given as goal

abbrev pub invariant-loop-item : goal.invariant-loop-item
invariant-loop-item l = are_plain_words (view_all (drop l.item-index l.item-items)) ≡ are_plain_words (list_view l.items)
