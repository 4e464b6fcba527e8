use Rattle.std.proofs.Common.{◌≡◌, ◌+◌, ◌-◌, ◌*◌, ◌≤◌, Some, length, ℕ, List}
use Rattle.c_tree.specs.Symbol.{symbols_of}
use Rattle.c_tree.specs.Height.{height_of, height_in}
use Rattle.c_tree.specs.Forget.{view, view_all}
use Rattle.c_tree.specs.Views.{node_of, nodes_in}
use Rattle.c_grammar.specs.CPlaces.Stands.{StandsOver, Stands}
use Rattle.c_grammar.specs.Reading.{read}
use Rattle.c_grammar.specs.Ways.ExpressionSteps.{read_binary, read_chain, read_postfix_operators, read_postfix, read_more_arguments, read_path}
use Rattle.c_tree.specs.declared.token.Token.{Token}
use Rattle.c_expr.specs.Gives.{ending_with, count_in}
use Rattle.c_expr.proofs.Standing.{led_line}
use Rattle.c_grammar.specs.CPlaces.Lines.{row_line}
use Rattle.c_grammar.specs.Ways.DeclaratorSteps.{read_params, read_suffixes}
use Rattle.c_expr.specs.ParamLists.{params_after}
use Rattle.c_expr.proofs.+read.Given as goal

abbrev pub decreases-expressions::expression_in_front : goal.decreases-expressions::expression_in_front
decreases-expressions::expression_in_front l = l.room * 32 + 20

abbrev pub decreases-expressions::read_commas : goal.decreases-expressions::read_commas
decreases-expressions::read_commas l = l.room * 32 + 19

abbrev pub decreases-expressions::read_assignment : goal.decreases-expressions::read_assignment
decreases-expressions::read_assignment l = l.room * 32 + 18

abbrev pub decreases-expressions::read_conditional : goal.decreases-expressions::read_conditional
decreases-expressions::read_conditional l = l.room * 32 + 17

abbrev pub decreases-expressions::read_binary : goal.decreases-expressions::read_binary
decreases-expressions::read_binary l = l.room * 32 + 16

abbrev pub decreases-expressions::read_cast : goal.decreases-expressions::read_cast
decreases-expressions::read_cast l = l.room * 32 + 15

abbrev pub decreases-expressions::read_chain : goal.decreases-expressions::read_chain
decreases-expressions::read_chain l = l.room * 32 + 15

abbrev pub decreases-expressions::read_unary : goal.decreases-expressions::read_unary
decreases-expressions::read_unary l = l.room * 32 + 14

abbrev pub decreases-expressions::read_sizeof : goal.decreases-expressions::read_sizeof
decreases-expressions::read_sizeof l = l.room * 32 + 13

abbrev pub decreases-postfix::read_postfix : goal.decreases-postfix::read_postfix
decreases-postfix::read_postfix l = l.room * 32 + 13

abbrev pub decreases-postfix::read_postfix_operator : goal.decreases-postfix::read_postfix_operator
decreases-postfix::read_postfix_operator l = l.room * 32 + 12

abbrev pub decreases-postfix::read_index : goal.decreases-postfix::read_index
decreases-postfix::read_index l = l.room * 32 + 11

abbrev pub decreases-postfix::read_arguments : goal.decreases-postfix::read_arguments
decreases-postfix::read_arguments l = l.room * 32 + 11

abbrev pub decreases-postfix::read_more_arguments : goal.decreases-postfix::read_more_arguments
decreases-postfix::read_more_arguments l = l.room * 32 + 10

abbrev pub decreases-primary::read_primary : goal.decreases-primary::read_primary
decreases-primary::read_primary l = l.room * 32 + 12

abbrev pub decreases-primary::read_paren : goal.decreases-primary::read_paren
decreases-primary::read_paren l = l.room * 32 + 11

abbrev pub decreases-primary::read_va_arg : goal.decreases-primary::read_va_arg
decreases-primary::read_va_arg l = l.room * 32 + 11

abbrev pub decreases-primary::read_offsetof : goal.decreases-primary::read_offsetof
decreases-primary::read_offsetof l = l.room * 32 + 11

abbrev pub decreases-primary::read_path : goal.decreases-primary::read_path
decreases-primary::read_path l = l.room * 32 + 10

abbrev pub decreases-primary::read_designator : goal.decreases-primary::read_designator
decreases-primary::read_designator l = l.room * 32 + 9

abbrev pub decreases-types::type_name_in_front : goal.decreases-types::type_name_in_front
decreases-types::type_name_in_front l = l.room * 32 + 20

abbrev pub decreases-params::param_in_front : goal.decreases-params::param_in_front
decreases-params::param_in_front l = l.room * 32 + 20

abbrev pub decreases-params::read_params : goal.decreases-params::read_params
decreases-params::read_params l = l.room * 32 + 14

abbrev pub decreases-params::read_param_list : goal.decreases-params::read_param_list
decreases-params::read_param_list l = l.room * 32 + 15

abbrev pub decreases-declarators::declarator_in_front : goal.decreases-declarators::declarator_in_front
decreases-declarators::declarator_in_front l = l.room * 32 + 20

abbrev pub decreases-declarators::read_direct : goal.decreases-declarators::read_direct
decreases-declarators::read_direct l = l.room * 32 + 19

abbrev pub decreases-declarators::read_named : goal.decreases-declarators::read_named
decreases-declarators::read_named l = l.room * 32 + 18

abbrev pub decreases-declarators::read_nested : goal.decreases-declarators::read_nested
decreases-declarators::read_nested l = l.room * 32 + 18

abbrev pub decreases-declarators::read_unnamed : goal.decreases-declarators::read_unnamed
decreases-declarators::read_unnamed l = l.room * 32 + 18

abbrev pub decreases-declarators::read_suffixes : goal.decreases-declarators::read_suffixes
decreases-declarators::read_suffixes l = l.room * 32 + 17

abbrev pub decreases-declarators::read_suffix : goal.decreases-declarators::read_suffix
decreases-declarators::read_suffix l = l.room * 32 + 16

abbrev pub decreases-declarators::read_bound : goal.decreases-declarators::read_bound
decreases-declarators::read_bound l = l.room * 32 + 15

abbrev pub invariant-expressions::read_binary-loop-done : goal.invariant-expressions::read_binary-loop-done
invariant-expressions::read_binary-loop-done l = record {
  found : read_binary (read (l.room - 1)) l.room l.fn.names.now l.done (symbols_of l.fn.tokens) ≡ Some (view l.before.tree.now, symbols_of l.before.rest.now);
  height : l.before.height ≡ height_of (view l.before.tree.now);
  now : l.names.now ≡ l.fn.names.now;
  saved : l.names.saved ≡ l.fn.names.saved;
  rises : l.fn.next ≤ l.next;
  spent : l.next + 16 * length l.before.rest.now ≤ l.fn.next + 16 * length l.fn.tokens;
  stands : StandsOver (node_of l.before.tree.now) l.fn.next l.next l.fn.tokens l.before.rest.now;
}

abbrev pub invariant-expressions::read_chain-loop-op : goal.invariant-expressions::read_chain-loop-op
invariant-expressions::read_chain-loop-op l = record {
  found : read_chain (read (l.room - 1)) l.room l.fn.names.now l.level l.fuel (view l.before.tree.now) (symbols_of l.before.rest.now) ≡ read_chain (read (l.room - 1)) l.room l.fn.names.now l.level l.room (view l.fn.first.tree.now) (symbols_of l.fn.first.rest.now);
  height : l.before.height ≡ height_of (view l.before.tree.now);
  now : l.names.now ≡ l.fn.names.now;
  saved : l.names.saved ≡ l.fn.names.saved;
  rises : l.fn.next ≤ l.next;
  spent : l.next + 16 * length l.before.rest.now ≤ l.fn.next + 16 * length l.fn.first.rest.now;
  stands : (low : ℕ) (ts : List Token) → StandsOver (node_of l.fn.first.tree.now) low l.fn.next ts l.fn.first.rest.now → StandsOver (node_of l.before.tree.now) low l.next ts l.before.rest.now;
}

abbrev pub decreases-expressions::read_chain-loop-op : goal.decreases-expressions::read_chain-loop-op
decreases-expressions::read_chain-loop-op l = l.fuel

abbrev pub invariant-postfix::read_postfix-loop-operand : goal.invariant-postfix::read_postfix-loop-operand
invariant-postfix::read_postfix-loop-operand l = record {
  found : read_postfix_operators (read (l.room - 1)) l.room l.fn.names.now l.fuel (view l.operand.tree.now) (symbols_of l.operand.rest.now) ≡ read_postfix (read (l.room - 1)) l.room l.fn.names.now (symbols_of l.fn.tokens);
  height : l.operand.height ≡ height_of (view l.operand.tree.now);
  now : l.names.now ≡ l.fn.names.now;
  saved : l.names.saved ≡ l.fn.names.saved;
  rises : l.fn.next ≤ l.next;
  stands : StandsOver (node_of l.operand.tree.now) l.fn.next l.next l.fn.tokens l.operand.rest.now;
  spent : l.next + 16 * length l.operand.rest.now ≤ l.fn.next + 16 * length l.fn.tokens;
}

abbrev pub decreases-postfix::read_postfix-loop-operand : goal.decreases-postfix::read_postfix-loop-operand
decreases-postfix::read_postfix-loop-operand l = l.fuel

abbrev pub invariant-postfix::read_more_arguments-loop-fuel : goal.invariant-postfix::read_more_arguments-loop-fuel
invariant-postfix::read_more_arguments-loop-fuel l = record {
  found : ending_with l.all.items (read_more_arguments (read (l.room - 1)) l.fn.names.now l.fuel (symbols_of l.rest)) ≡ read_more_arguments (read (l.room - 1)) l.fn.names.now (length (symbols_of l.fn.tokens)) (symbols_of l.fn.tokens);
  height : l.highest ≡ height_in (view_all l.all.items);
  now : l.names.now ≡ l.fn.names.now;
  saved : l.names.saved ≡ l.fn.names.saved;
  rises : l.fn.next ≤ l.next;
  stands : Stands (led_line l.all.items) l.fn.next l.next l.fn.tokens l.rest;
  spent : l.next + 16 * length l.rest ≤ l.fn.next + 16 * length l.fn.tokens;
}

abbrev pub decreases-postfix::read_more_arguments-loop-fuel : goal.decreases-postfix::read_more_arguments-loop-fuel
decreases-postfix::read_more_arguments-loop-fuel l = l.fuel

abbrev pub invariant-primary::read_path-loop-fuel : goal.invariant-primary::read_path-loop-fuel
invariant-primary::read_path-loop-fuel l = record {
  found : ending_with l.all.items (read_path (read (l.room - 1)) l.fn.names.now l.fuel (symbols_of l.rest)) ≡ read_path (read (l.room - 1)) l.fn.names.now (length (symbols_of l.fn.tokens)) (symbols_of l.fn.tokens);
  height : l.highest ≡ height_in (view_all l.all.items);
  now : l.names.now ≡ l.fn.names.now;
  saved : l.names.saved ≡ l.fn.names.saved;
  rises : l.fn.next ≤ l.next;
  stands : Stands (row_line (nodes_in l.all.items)) l.fn.next l.next l.fn.tokens l.rest;
  spent : l.next + 16 * length l.rest ≤ l.fn.next + 16 * length l.fn.tokens;
}

abbrev pub decreases-primary::read_path-loop-fuel : goal.decreases-primary::read_path-loop-fuel
decreases-primary::read_path-loop-fuel l = l.fuel

abbrev pub invariant-params::read_params-loop-fuel : goal.invariant-params::read_params-loop-fuel
invariant-params::read_params-loop-fuel l = record {
  found : params_after l.all.items (read_params (read (l.room - 1)) l.names.now l.fuel (symbols_of l.rest)) ≡ read_params (read (l.room - 1)) l.fn.names.now (length (symbols_of l.fn.tokens)) (symbols_of l.fn.tokens);
  height : l.highest ≡ height_in (view_all l.all.items);
  saved : l.names.saved ≡ l.fn.names.saved;
  rises : l.fn.next ≤ l.next;
  stands : Stands (led_line l.all.items) l.fn.next l.next l.fn.tokens l.rest;
  spent : l.next + 16 * length l.rest ≤ l.fn.next + 16 * length l.fn.tokens;
}

abbrev pub decreases-params::read_params-loop-fuel : goal.decreases-params::read_params-loop-fuel
decreases-params::read_params-loop-fuel l = l.fuel

abbrev pub invariant-declarators::read_suffixes-loop-rest : goal.invariant-declarators::read_suffixes-loop-rest
invariant-declarators::read_suffixes-loop-rest l = record {
  found : ending_with l.all.items (read_suffixes (read (l.room - 1)) l.fn.names.now l.fuel (symbols_of l.rest)) ≡ read_suffixes (read (l.room - 1)) l.fn.names.now (length (symbols_of l.fn.tokens)) (symbols_of l.fn.tokens);
  height : l.highest ≡ height_in (view_all l.all.items);
  now : l.names.now ≡ l.fn.names.now;
  saved : l.names.saved ≡ l.fn.names.saved;
  rises : l.fn.next ≤ l.next;
  stands : Stands (row_line (nodes_in l.all.items)) l.fn.next l.next l.fn.tokens l.rest;
  spent : l.next + 16 * length l.rest + 16 * count_in (view_all l.all.items) ≤ l.fn.next + 16 * length l.fn.tokens;
}

abbrev pub decreases-declarators::read_suffixes-loop-rest : goal.decreases-declarators::read_suffixes-loop-rest
decreases-declarators::read_suffixes-loop-rest l = l.fuel
