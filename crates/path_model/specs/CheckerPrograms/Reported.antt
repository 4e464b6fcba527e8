-- WHAT CHECKERS REPORT of a program: the error transitions that some checker takes on some path from some root, in order and each once.
use Rattle.std.specs.Prelude.{◌≡◌, List, AllPairs, Contains}
use Rattle.std.specs.declared.cmp.Ordering.TheVariants.{Less}
use Rattle.flow_graph.specs.CPaths.Membership.{Among}
use Rattle.path_model.specs.CheckerModel.Checkers.{model}
use Rattle.path_model.specs.CheckerModel.Reports.{Checker}
use Rattle.path_model.specs.CheckerPrograms.Paths.{program}
use Rattle.typed_unit.specs.Texts.{Text}
use Rattle.report_model.specs.declared.report.Report.{Report}
use Rattle.report_model.specs.Order.{report_cmp}
use Rattle.path_theory.specs.Paths.{Reported}

-- one of the checkers reports it
pub record IsReported (cs : List Checker) (ts : List Text) (r : Report) : Type 0 where
  pub checker : Checker
  pub among : Among checker cs
  pub taken : Reported (model checker) (program checker ts) r

-- THE LIST OF REPORTS
pub record AreReports (cs : List Checker) (ts : List Text) (reports : List Report) : Type 0 where
  pub ascending : AllPairs (λ a b. report_cmp a b ≡ Less) reports
  pub real : (r : Report) → Contains reports r → IsReported cs ts r
  pub whole : (r : Report) → IsReported cs ts r → Contains reports r
