-- WHAT IS MEASURED of a generated program.
use Rattle.std.specs.Prelude.{◌≡◌, ℕ, ◌+◌, List, [], ◌∷◌, ◌++◌, length, codes}
use Rattle.std.specs.Fmt.{decimal}
use Rattle.report_model.specs.declared.report.Report.{Report}
use Rattle.mx_io.specs.Bytes.{Bytes}
use Rattle.command.specs.Checker.{free_text}
use Rattle.command.specs.GeneratedProgram.Generated.{generated}
use Rattle.command.specs.JudgedFiles.Judged.{AreJudged}
use Rattle.command.specs.Statuses.{status_of}
use Rattle.command.specs.declared.status.Status.{Status}

-- the names of the two files
abbrev pub checker_name : Bytes
checker_name = codes "free.metal"

abbrev pub program_name : Bytes
program_name = codes "generated.c"

-- these are the reports of the fixed checker over a program with this text, where objects have at most 4 steps
abbrev pub AreReportsOf : Bytes → List Report → Type 0
AreReportsOf text reports = AreJudged (checker_name ∷ []) (program_name ∷ []) (free_text ∷ text ∷ []) 4 reports

-- THE REPORTS of the generated program of this number
abbrev pub IsMeasured : ℕ → List Report → Type 0
IsMeasured count reports = AreReportsOf (generated count) reports

-- `functions F, bytes B, reports R`
abbrev pub measure_line : ℕ → List Report → Bytes
measure_line count reports =
    codes "functions " ++ (decimal (count + 2) ++ (codes ", bytes " ++ (decimal (length (generated count)) ++ (codes ", reports " ++ (decimal (length reports) ++ codes "\n")))))

-- the line of this number, and the status of its reports
pub record IsMeasure (count : ℕ) (line : Bytes) (status : Status) : Type 0 where
  pub reports : List Report
  pub measured : IsMeasured count reports
  pub line_is : line ≡ measure_line count reports
  pub status_is : status ≡ status_of reports
