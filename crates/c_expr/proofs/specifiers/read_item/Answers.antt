use Rattle.c_grammar.specs.CPlaces.Stands.{OfKept, OfPlace}
use Rattle.c_expr.proofs.Standing.{made}
use Rattle.c_expr.proofs.specifiers.read_item.Goals as goal

pub returns-clause-stands : goal.returns-clause-stands
returns-clause-stands c = made c.part.result _ _ _ _ _ _ _ c.part.ensures.node OfPlace OfKept
