use Rattle.c_grammar.specs.CPlaces.Stands.{OfNothing, OfBoth}
use Rattle.c_parser.proofs.statements.read_maybe_expression.Goals as goal

pub returns-in-Some-clause-stands : goal.returns-in-Some-clause-stands
returns-in-Some-clause-stands c = OfBoth OfNothing (c.in-Some.ensures.passes _)

pub returns-clause-stands : goal.returns-clause-stands
returns-clause-stands c = OfBoth c.in_ok-value.ensures.stands (c.in-Some-after_sign.ensures.passes _)
