use Rattle.c_grammar.specs.CPlaces.Stands.{OfBoth}
use Rattle.c_expr.proofs.Standing.{made, at_passed}
use Rattle.c_parser.proofs.jumps.read_goto.Goals as goal

pub returns-clause-stands : goal.returns-clause-stands
returns-clause-stands c ts f p = made c.node.result _ _ _ _ _ _ _ c.node.ensures.node (at_passed _ _ _ _ _ f p) (OfBoth (OfBoth (p _) (c.in-Some.ensures.kept _)) (c.in-Some-after_sign.ensures.passes _))
