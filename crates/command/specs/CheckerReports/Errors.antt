-- WHAT CHECKERS REPORT of a program: the error transitions that some checker takes on some path from some root, in order and each once.
-- A path is a flat list of events, calls and returns, each return with its call; the state is a fold over this list.
use Rattle.std.specs.Prelude.{◌≡◌, List, AllPairs, Contains}
use Rattle.std.specs.declared.cmp.Ordering.TheVariants.{Less}
use Rattle.flow_graph.specs.CPaths.Membership.{Among}
use Rattle.path_model.specs.CheckerModel.Checkers.{model}
use Rattle.path_model.specs.CheckerModel.Reports.{Checker}
use Rattle.path_model.specs.CheckerPrograms.Paths.{program}
use Rattle.typed_unit.specs.Texts.{Text}
use Rattle.report_model.specs.declared.report.Report.{Report}
use Rattle.report_model.specs.Order.{report_cmp}
use Rattle.path_theory.specs.FlatPaths.{InErrors}

-- an error of one of the checkers
pub record IsError (cs : List Checker) (ts : List Text) (r : Report) : Type 0 where
  pub checker : Checker
  pub among : Among checker cs
  pub taken : InErrors (model checker) (program checker ts) r

-- THE LIST OF ERRORS
pub record AreErrors (cs : List Checker) (ts : List Text) (reports : List Report) : Type 0 where
  pub ascending : AllPairs (λ a b. report_cmp a b ≡ Less) reports
  pub real : (r : Report) → Contains reports r → IsError cs ts r
  pub whole : (r : Report) → IsError cs ts r → Contains reports r
