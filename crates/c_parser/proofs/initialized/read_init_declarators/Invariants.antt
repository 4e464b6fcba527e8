use Rattle.std.proofs.Common.{◌≡◌, ℕ, ◌+◌, ◌-◌, ◌*◌, ◌<◌, ◌≤◌, List, length}
use Rattle.c_tree.specs.declared.token.Token.{Token}
use Rattle.c_tree.specs.Symbol.{symbols_of}
use Rattle.c_tree.specs.Height.{height_of, height_in}
use Rattle.c_tree.specs.Forget.{view, view_all}
use Rattle.c_tree.specs.Views.{node_of}
use Rattle.c_grammar.specs.CPlaces.Lines.{◌⨾◌, line_of}
use Rattle.c_grammar.specs.CPlaces.Stands.{Stands, StandsOver}
use Rattle.c_grammar.specs.Reading.{read as read_expressions}
use Rattle.c_grammar.specs.UnitGrammar.Names.{with_declarators}
use Rattle.c_grammar.specs.Ways.DeclarationSteps.{read_init_declarators}
use Rattle.c_grammar.specs.UnitGrammar.Reading.{read}
use Rattle.c_expr.specs.Gives.{ending_with}
use Rattle.c_expr.proofs.Standing.{led_line}
use Rattle.c_parser.proofs.initialized.read_init_declarators.Given as goal

abbrev pub invariant-loop-fuel : goal.invariant-loop-fuel
invariant-loop-fuel l = record {
  found : ending_with l.all.items (read_init_declarators (read_expressions (l.room - 1)) (read (l.room - 1)) l.is_type l.names.now l.fuel (view l.declarator.tree.now) (symbols_of l.declarator.rest.now))
      ≡ read_init_declarators (read_expressions (l.room - 1)) (read (l.room - 1)) l.is_type l.fn.names.now (length (symbols_of l.fn.first.rest.now)) (view l.fn.first.tree.now) (symbols_of l.fn.first.rest.now);
  height : l.highest ≡ height_in (view_all l.all.items);
  read : l.declarator.height ≡ height_of (view l.declarator.tree.now);
  low : l.declarator.height < l.room;
  now : l.names.now ≡ with_declarators l.is_type (view_all l.all.items) l.fn.names.now;
  saved : l.names.saved ≡ l.fn.names.saved;
  rises : l.fn.next ≤ l.next;
  stands : (low : ℕ) (ts : List Token) → StandsOver (node_of l.fn.first.tree.now) low l.fn.next ts l.fn.first.rest.now → Stands (led_line l.all.items ⨾ line_of (node_of l.declarator.tree.now)) low l.next ts l.declarator.rest.now;
  spent : l.next + 16 * length l.declarator.rest.now ≤ l.fn.next + 16 * length l.fn.first.rest.now;
}

abbrev pub decreases-loop-fuel : goal.decreases-loop-fuel
decreases-loop-fuel l = l.fuel
