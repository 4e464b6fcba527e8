-- The lines of reports.
use Rattle.std.specs.Prelude.{ℕ, List, [], ◌∷◌, ◌++◌, flat_map, codes}
use Rattle.std.specs.Fmt.{decimal}
use Rattle.report_model.specs.declared.report.Report.{Report}

-- `FILE:LINE:COL: CHECKER: MESSAGE` and a line feed
abbrev pub line_of : Report → List ℕ
line_of r = r.file ++ (58 ∷ (decimal r.line ++ (58 ∷ (decimal r.col ++ (codes ": " ++ (r.checker_name ++ (codes ": " ++ (r.message ++ 10 ∷ []))))))))

abbrev pub text_of : List Report → List ℕ
text_of reports = flat_map line_of reports
