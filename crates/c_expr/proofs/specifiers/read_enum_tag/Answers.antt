use Rattle.c_grammar.specs.CPlaces.Stands.{OfBoth}
use Rattle.c_expr.proofs.Standing.{made, at_passed}
use Rattle.c_expr.proofs.specifiers.read_enum_tag.Goals as goal

pub returns-clause-stands : goal.returns-clause-stands
returns-clause-stands c ts f p = made c.part.result _ _ _ _ _ _ _ c.part.ensures.node (at_passed _ _ _ _ _ f p) (OfBoth (p _) (c.in-Some.ensures.kept _))
