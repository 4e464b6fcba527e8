-- the lines so far and those of the reports that are left are all
use Rattle.std.proofs.Common.{◌≡◌, ◌++◌, drop}
use Rattle.report_model.specs.OfReporters.Styles.{json_of}
use Rattle.report_model.proofs.reporters.json.json_text.Given as goal

abbrev pub invariant-loop-report : goal.invariant-loop-report
invariant-loop-report l = l.text ++ json_of (drop l.report-index l.reports) ≡ json_of l.reports
