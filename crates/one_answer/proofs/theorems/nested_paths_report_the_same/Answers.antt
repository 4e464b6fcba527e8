use Rattle.command.proofs.CheckerReports.FlatPaths.{error, reported}
use Rattle.one_answer.proofs.theorems.nested_paths_report_the_same.Goals as goal

pub returns : goal.returns
returns c checkers texts reports are r = (
  λ there. reported checkers texts r (are.real r there),
  λ takes. are.whole r (error checkers texts r takes),
)
