use Rattle.std.proofs.Common.{◌≡◌, ◌+◌, ◌-◌, ◌*◌, ◌≤◌, length}
use Rattle.c_tree.specs.Symbol.{symbols_of}
use Rattle.c_tree.specs.Height.{height_in}
use Rattle.c_tree.specs.Forget.{view_all}
use Rattle.c_tree.specs.Views.{nodes_in}
use Rattle.c_grammar.specs.CPlaces.Lines.{row_line}
use Rattle.c_grammar.specs.CPlaces.Stands.{Stands}
use Rattle.c_grammar.specs.Ways.StatementSteps.{read_statements, read_block_items}
use Rattle.c_grammar.specs.UnitGrammar.Reading.{read}
use Rattle.c_expr.specs.Gives.{ending_with}
use Rattle.c_parser.proofs.+statements.Given as goal

abbrev pub decreases-statements::statement_in_front : goal.decreases-statements::statement_in_front
decreases-statements::statement_in_front l = l.room * 16 + 12

abbrev pub decreases-statements::read_statement : goal.decreases-statements::read_statement
decreases-statements::read_statement l = l.room * 16 + 11

abbrev pub decreases-statements::read_block_or_expression : goal.decreases-statements::read_block_or_expression
decreases-statements::read_block_or_expression l = l.room * 16 + 10

abbrev pub decreases-statements::read_by_keyword : goal.decreases-statements::read_by_keyword
decreases-statements::read_by_keyword l = l.room * 16 + 10

abbrev pub decreases-selections::read_if : goal.decreases-selections::read_if
decreases-selections::read_if l = l.room * 16 + 8

abbrev pub decreases-selections::read_switch : goal.decreases-selections::read_switch
decreases-selections::read_switch l = l.room * 16 + 8

abbrev pub decreases-selections::read_case : goal.decreases-selections::read_case
decreases-selections::read_case l = l.room * 16 + 8

abbrev pub decreases-selections::read_default : goal.decreases-selections::read_default
decreases-selections::read_default l = l.room * 16 + 8

abbrev pub decreases-selections::read_label : goal.decreases-selections::read_label
decreases-selections::read_label l = l.room * 16 + 8

abbrev pub decreases-loops::read_while : goal.decreases-loops::read_while
decreases-loops::read_while l = l.room * 16 + 8

abbrev pub decreases-loops::read_do : goal.decreases-loops::read_do
decreases-loops::read_do l = l.room * 16 + 8

abbrev pub decreases-loops::read_for : goal.decreases-loops::read_for
decreases-loops::read_for l = l.room * 16 + 8

abbrev pub decreases-blocks::read_block_rest : goal.decreases-blocks::read_block_rest
decreases-blocks::read_block_rest l = l.room * 16 + 9

abbrev pub decreases-blocks::read_block_items : goal.decreases-blocks::read_block_items
decreases-blocks::read_block_items l = l.room * 16 + 8

abbrev pub invariant-blocks::read_block_items-loop-rest : goal.invariant-blocks::read_block_items-loop-rest
invariant-blocks::read_block_items-loop-rest l = record {
  found : ending_with l.all.items (read_block_items (read (l.room - 1)) l.names.now l.fuel (symbols_of l.rest)) ≡ read_block_items (read (l.room - 1)) l.fn.names.now (length (symbols_of l.fn.tokens)) (symbols_of l.fn.tokens);
  height : l.highest ≡ height_in (view_all l.all.items);
  saved : l.names.saved ≡ l.fn.names.saved;
  rises : l.fn.next ≤ l.next;
  stands : Stands (row_line (nodes_in l.all.items)) l.fn.next l.next l.fn.tokens l.rest;
  spent : l.next + 16 * length l.rest ≤ l.fn.next + 16 * length l.fn.tokens;
}

abbrev pub decreases-blocks::read_block_items-loop-rest : goal.decreases-blocks::read_block_items-loop-rest
decreases-blocks::read_block_items-loop-rest l = l.fuel

abbrev pub invariant-blocks::read_block_items-loop-fuel : goal.invariant-blocks::read_block_items-loop-fuel
invariant-blocks::read_block_items-loop-fuel l = record {
  found : ending_with l.all.items (read_statements (read (l.room - 1)) l.names.now l.fuel (symbols_of l.rest)) ≡ read_block_items (read (l.room - 1)) l.fn.names.now (length (symbols_of l.fn.tokens)) (symbols_of l.fn.tokens);
  height : l.highest ≡ height_in (view_all l.all.items);
  saved : l.names.saved ≡ l.fn.names.saved;
  rises : l.fn.next ≤ l.next;
  stands : Stands (row_line (nodes_in l.all.items)) l.fn.next l.next l.fn.tokens l.rest;
  spent : l.next + 16 * length l.rest ≤ l.fn.next + 16 * length l.fn.tokens;
}

abbrev pub decreases-blocks::read_block_items-loop-fuel : goal.decreases-blocks::read_block_items-loop-fuel
decreases-blocks::read_block_items-loop-fuel l = l.fuel
