use Rattle.c_expr.proofs.StandingParts.{passed-both}
use Rattle.c_expr.proofs.params.after_void.Goals as goal

pub returns-clause-passes : goal.returns-clause-passes
returns-clause-passes c = passed-both c.after_sign.result _ _ _ _ c.in_ok-rest.ensures.passes c.after_sign.ensures.passes
