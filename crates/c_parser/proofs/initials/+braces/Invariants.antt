use Rattle.std.proofs.Common.{◌≡◌, ◌+◌, ◌-◌, ◌*◌, ◌≤◌, length}
use Rattle.c_tree.specs.Symbol.{symbols_of}
use Rattle.c_tree.specs.Height.{height_in}
use Rattle.c_tree.specs.Forget.{view_all}
use Rattle.c_grammar.specs.CPlaces.Stands.{Stands}
use Rattle.c_grammar.specs.Reading.{read as read_expressions}
use Rattle.c_grammar.specs.Ways.DeclarationSteps.{read_initials}
use Rattle.c_grammar.specs.UnitGrammar.Reading.{read}
use Rattle.c_expr.proofs.Standing.{led_line}
use Rattle.c_parser.specs.CommaLists.{commas_after}
use Rattle.c_parser.proofs.initials.+braces.Given as goal

abbrev pub decreases-braces_in_front : goal.decreases-braces_in_front
decreases-braces_in_front l = l.room * 16 + 10

abbrev pub decreases-read_initials : goal.decreases-read_initials
decreases-read_initials l = l.room * 16 + 9

abbrev pub decreases-read_initial : goal.decreases-read_initial
decreases-read_initial l = l.room * 16 + 8

abbrev pub invariant-read_initials-loop-fuel : goal.invariant-read_initials-loop-fuel
invariant-read_initials-loop-fuel l = record {
  found : commas_after l.all.items (read_initials (read_expressions (l.room - 1)) (read (l.room - 1)) l.fn.names.now l.fuel (symbols_of l.rest)) ≡ read_initials (read_expressions (l.room - 1)) (read (l.room - 1)) l.fn.names.now (length (symbols_of l.fn.tokens)) (symbols_of l.fn.tokens);
  height : l.highest ≡ height_in (view_all l.all.items);
  now : l.names.now ≡ l.fn.names.now;
  saved : l.names.saved ≡ l.fn.names.saved;
  rises : l.fn.next ≤ l.next;
  stands : Stands (led_line l.all.items) l.fn.next l.next l.fn.tokens l.rest;
  spent : l.next + 16 * length l.rest ≤ l.fn.next + 16 * length l.fn.tokens;
}

abbrev pub decreases-read_initials-loop-fuel : goal.decreases-read_initials-loop-fuel
decreases-read_initials-loop-fuel l = l.fuel
