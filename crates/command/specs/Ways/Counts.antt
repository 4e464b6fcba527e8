-- A way to prove which line is due beside reports: the count of entries that is kept.
use Rattle.std.specs.Prelude.{◌≡◌, ℕ, Bool, true, false, List, Option, None, Some}
use Rattle.path_model.specs.CheckerModel.Reports.{Checker}
use Rattle.report_model.specs.declared.report.Report.{Report}
use Rattle.typed_unit.specs.Texts.{Text}
use Rattle.mx_io.specs.Bytes.{Bytes, Words}
use Rattle.command.specs.Counted.{CountLogs}
use Rattle.command.specs.CheckerReports.Checkers.{checkers_in}
use Rattle.command.specs.JudgedFiles.Judged.{AreAccepted}

-- none was kept, since statistics aren't asked for; or this one, of the logs of these checkers over these texts
abbrev pub IsCountFor : Bool → List Checker → List Text → Option ℕ → Type 0
IsCountFor stats cs ts None = stats ≡ false
IsCountFor stats cs ts (Some entries) = (stats ≡ true) × ∥ CountLogs cs ts 0 entries ∥₁

-- all files of a request were read and have no fault, these are their reports, and this count was kept of the logs of their checkers
pub record AreCounted (Holds : Bytes → Bytes → Type 0) (checkers sources : Words) (depth : ℕ) (stats : Bool) (reports : List Report) (entries : Option ℕ) : Type 0 where
  pub accepted : AreAccepted Holds checkers sources depth reports
  pub counted : IsCountFor stats (checkers_in accepted.judged.machines depth accepted.judged.names) accepted.judged.texts entries
