-- What nested paths report is what flat ones do.
use Rattle.std.proofs.Common.{List}
use Rattle.path_model.specs.CheckerModel.Checkers.{model}
use Rattle.path_model.specs.CheckerModel.Reports.{Checker}
use Rattle.path_model.specs.CheckerPrograms.Paths.{program}
use Rattle.path_model.specs.CheckerPrograms.Reported.{AreReports, IsReported}
use Rattle.path_theory.proofs.FlatPaths.{in_errors}
use Rattle.typed_unit.specs.Texts.{Text}
use Rattle.report_model.specs.declared.report.Report.{Report}
use Rattle.command.specs.CheckerReports.Errors.{AreErrors, IsError}

module _ (cs : List Checker) (ts : List Text) where
  pub error : (r : Report) → IsReported cs ts r → IsError cs ts r
  error r x = record { checker = x.checker; among = x.among; taken = (in_errors (model x.checker) (program x.checker ts) r).1 x.taken }

  pub reported : (r : Report) → IsError cs ts r → IsReported cs ts r
  reported r x = record { checker = x.checker; among = x.among; taken = (in_errors (model x.checker) (program x.checker ts) r).0 x.taken }

  -- A LIST OF REPORTS IS ONE OF ERRORS
  pub errors : (reports : List Report) → AreReports cs ts reports → AreErrors cs ts reports
  errors reports a = record { ascending = a.ascending; real = λ r there. error r (a.real r there); whole = λ r x. a.whole r (reported r x) }
