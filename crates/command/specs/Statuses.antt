-- What is said of a status by itself: its number, and of which reports it is. When a run ends in it is said by the fields of `Promise` (`Run`).
use Rattle.std.specs.Prelude.{ℕ, Bool, true, false, List, [], ◌∷◌}
use Rattle.report_model.specs.declared.report.Report.{Report}
use Rattle.command.specs.declared.status.Status.{Status}
use Rattle.command.specs.declared.status.Status.TheVariants.{Clean, Reports, Usage, Refused, ReadFault, WriteFault, NoMemory}

-- THE EXIT STATUS
abbrev pub exit_status : Status → ℕ
exit_status Clean = 0
exit_status Reports = 1
exit_status Usage = 2
exit_status Refused = 3
exit_status ReadFault = 4
exit_status WriteFault = 5
exit_status NoMemory = 6

-- THE STATUS OF A LIST OF REPORTS: it says whether there are any
abbrev pub status_of : List Report → Status
status_of [] = Clean
status_of (_ ∷ _) = Reports

-- it is that of a list of reports
abbrev pub is_of_reports : Status → Bool
is_of_reports Clean = true
is_of_reports Reports = true
is_of_reports _ = false
