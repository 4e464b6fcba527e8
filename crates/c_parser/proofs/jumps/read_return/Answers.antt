use Rattle.c_expr.proofs.Standing.{made, at_passed, then_both}
use Rattle.c_parser.proofs.jumps.read_return.Goals as goal

pub returns-clause-stands : goal.returns-clause-stands
returns-clause-stands c ts f p = made c.return_of.result _ _ _ _ _ _ _ c.return_of.ensures.node (at_passed _ _ _ _ _ f p) (then_both _ _ _ _ _ _ _ _ _ (p _) c.in_ok-value.ensures.stands)
