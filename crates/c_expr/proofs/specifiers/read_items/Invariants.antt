use Rattle.std.proofs.Common.{◌≡◌, ◌+◌, ◌*◌, ◌≤◌, length, false}
use Rattle.c_tree.specs.Symbol.{symbols_of}
use Rattle.c_tree.specs.Height.{height_in}
use Rattle.c_tree.specs.Forget.{view_all}
use Rattle.c_tree.specs.Views.{nodes_in}
use Rattle.c_grammar.specs.CPlaces.Lines.{row_line}
use Rattle.c_grammar.specs.CPlaces.Stands.{Stands}
use Rattle.c_grammar.specs.Ways.SpecifierSteps.{read_tag, read_items}
use Rattle.c_expr.specs.Gives.{ending_with, count_in}
use Rattle.c_expr.proofs.specifiers.read_items.Given as goal

abbrev pub invariant-loop-front : goal.invariant-loop-front
invariant-loop-front l = record {
  found : ending_with l.all.items (read_items read_tag l.names.now l.fuel l.typed (symbols_of l.rest)) ≡ read_items read_tag l.names.now (length (symbols_of l.tokens)) false (symbols_of l.tokens);
  height : l.highest ≡ height_in (view_all l.all.items);
  rises : l.fn.next ≤ l.next;
  stands : Stands (row_line (nodes_in l.all.items)) l.fn.next l.next l.tokens l.rest;
  spent : l.next + 16 * length l.rest + 15 * count_in (view_all l.all.items) ≤ l.fn.next + 16 * length l.tokens;
}

abbrev pub decreases-loop-front : goal.decreases-loop-front
decreases-loop-front l = l.fuel
