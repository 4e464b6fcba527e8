-- the lines so far and those of the reports that are left are all
use Rattle.std.proofs.Common.{◌≡◌, ◌++◌, drop}
use Rattle.report_model.specs.Lines.{text_of}
use Rattle.command.proofs.lines.write_lines.Given as goal

abbrev pub invariant-loop-report : goal.invariant-loop-report
invariant-loop-report l = l.text.items ++ text_of (drop l.report-index l.reports) ≡ text_of l.reports
