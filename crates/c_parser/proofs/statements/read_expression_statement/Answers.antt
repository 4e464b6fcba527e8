use Rattle.std.proofs.Common.{arith}
use Rattle.c_expr.proofs.Standing.{made, at_front}
use Rattle.c_parser.proofs.statements.read_expression_statement.Goals as goal

pub returns-clause-stands : goal.returns-clause-stands
returns-clause-stands c = made c.expression_statement_of.result _ _ _ _ _ _ _ c.expression_statement_of.ensures.node (at_front _ _ _ c.place_of.ensures (omega (arith, c.in_ok-value.ensures.ids))) c.in_ok-value.ensures.stands
