use Rattle.least_set.proofs.Enumerating.{exactly_both}
use Rattle.outside_tests.proofs.least_sets.ProgramRules.enter.Goals as goal

pub returns-clause-goes : goal.returns-clause-goes
returns-clause-goes c = rw c.in_ok-append.ensures.items (exactly_both c.in_ok-next.next.items c.in_ok-others.others.items c.in_ok-next.ensures c.in_ok-others.ensures)
