-- the rows so far and those of the reports that are left are all
use Rattle.std.proofs.Common.{◌≡◌, ◌++◌, drop, flat_map}
use Rattle.report_model.specs.OfReporters.Styles.{table_row}
use Rattle.report_model.proofs.reporters.table.write_rows.Given as goal

abbrev pub invariant-loop-report : goal.invariant-loop-report
invariant-loop-report l = l.into ++ flat_map table_row (drop l.report-index l.reports) ≡ l.initial.into ++ flat_map table_row l.reports
