use Rattle.path_model.specs.CheckerPrograms.Roots.{Leads}
use Rattle.path_model.proofs.CheckerPrograms.EarlierRoots.{root-is}
use Rattle.path_model.proofs.checker_programs.theorems.roots_are_uncalled_or_remain.Goals as goal

pub returns : goal.returns
returns k = λ m ts f. root-is (Leads m ts) f
