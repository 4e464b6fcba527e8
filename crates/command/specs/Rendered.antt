-- What is written of a list of reports: a line for each, or what the chosen reporter renders; and a line of statistics, where entries were counted.
use Rattle.std.specs.Prelude.{◌≡◌, ℕ, List, [], slice_get, Option, None, Some}
use Rattle.report_model.specs.declared.report.Report.{Report}
use Rattle.report_model.specs.Lines.{text_of}
use Rattle.mx_io.specs.Bytes.{Bytes}
use Rattle.command.specs.Counted.{stats_line}
use Rattle.command.specs.declared.status.Status.{Status}
use Rattle.command.specs.Statuses.{status_of}

-- a line for each report, or what the reporter at the place renders
abbrev pub IsText : Option ℕ → List Bytes → List Report → Bytes → Type 0
IsText None renderings reports text = text ≡ text_of reports
IsText (Some place) renderings reports text = slice_get renderings place ≡ Some text

-- the line of this many entries, where they were counted
abbrev pub line_for : Option ℕ → Bytes
line_for None = []
line_for (Some entries) = stats_line entries

-- what is planned for a list of reports, and this many entries
abbrev pub IsPlanFor : Option ℕ → List Bytes → List Report → Option ℕ → Status → Bytes → Bytes → Type 0
IsPlanFor place renderings reports entries status text line = (status ≡ status_of reports) × IsText place renderings reports text × (line ≡ line_for entries)
