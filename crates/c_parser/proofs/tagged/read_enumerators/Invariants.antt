use Rattle.std.proofs.Common.{◌≡◌, ◌+◌, ◌-◌, ◌*◌, ◌≤◌, length}
use Rattle.c_tree.specs.Symbol.{symbols_of}
use Rattle.c_tree.specs.Height.{height_in}
use Rattle.c_tree.specs.Forget.{view_all}
use Rattle.c_grammar.specs.CPlaces.Stands.{Stands}
use Rattle.c_grammar.specs.Reading.{read as read_expressions}
use Rattle.c_grammar.specs.UnitGrammar.Names.{declared_by_all}
use Rattle.c_grammar.specs.Ways.TaggedSteps.{read_enumerators}
use Rattle.c_expr.proofs.Standing.{led_line}
use Rattle.c_parser.specs.CommaLists.{commas_after}
use Rattle.c_parser.proofs.tagged.read_enumerators.Given as goal

abbrev pub invariant-loop-fuel : goal.invariant-loop-fuel
invariant-loop-fuel l = record {
  found : commas_after l.all.items (read_enumerators (read_expressions (l.room - 1)) l.names.now l.fuel (symbols_of l.rest)) ≡ read_enumerators (read_expressions (l.room - 1)) l.fn.names.now (length (symbols_of l.fn.tokens)) (symbols_of l.fn.tokens);
  height : l.highest ≡ height_in (view_all l.all.items);
  now : l.names.now ≡ declared_by_all (view_all l.all.items) l.fn.names.now;
  saved : l.names.saved ≡ l.fn.names.saved;
  rises : l.fn.next ≤ l.next;
  stands : Stands (led_line l.all.items) l.fn.next l.next l.fn.tokens l.rest;
  spent : l.next + 16 * length l.rest ≤ l.fn.next + 16 * length l.fn.tokens;
}

abbrev pub decreases-loop-fuel : goal.decreases-loop-fuel
decreases-loop-fuel l = l.fuel
