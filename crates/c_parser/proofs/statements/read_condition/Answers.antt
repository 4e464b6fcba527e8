use Rattle.c_grammar.specs.CPlaces.Stands.{OfBoth}
use Rattle.c_parser.proofs.statements.read_condition.Goals as goal

pub returns-clause-stands : goal.returns-clause-stands
returns-clause-stands c = OfBoth (OfBoth (c.in-Some.ensures.passes _) c.in_ok-value.ensures.stands) (c.in-Some-after_sign.ensures.passes _)
