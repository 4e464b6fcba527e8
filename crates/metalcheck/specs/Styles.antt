-- WHAT THE PROGRAM PROMISES: what `run` does (`command`: `Run`) with a reporter of each style that `--format` can choose, and that the text is
-- in the style that the words name.
use Rattle.std.specs.Prelude.{◌≡◌, ◌⊎◌, List, [], ◌∷◌, filter, map, Option, None, Some, codes}
use Rattle.mx_io.specs.Bytes.{Bytes}
use Rattle.command.specs.CheckerReports.Checkers.{checkers_in}
use Rattle.command.specs.Counted.{IsLineFor}
use Rattle.command.specs.Handed.{AreAccepted, may_hold}
use Rattle.command.specs.Run.{Promise, ReporterState, Run, reporter_state}
use Rattle.command.specs.Statuses.{status_of}
use Rattle.command.specs.Written.{Took}
use Rattle.command.specs.declared.status.Status.TheVariants.{Clean, Reports}
use Rattle.command_words.specs.Words.{IsRequest, Request, is_checker_word, is_source_word}
use Rattle.report_model.specs.Lines.{text_of}
use Rattle.report_model.specs.declared.report.Report.{Report}
use Rattle.report_model.specs.OfReporters.Styles.{json_of, report_table}

-- A REPORTER OF EACH STYLE, which holds nothing. They are made for the run and gone behind it
abbrev pub both_styles : List ReporterState
both_styles = reporter_state (codes "table") report_table [] ∷ reporter_state (codes "json") json_of [] ∷ []

-- reporters of these names and styles, in this order, whatever they hold
pub record AreOfBothStyles (reporters : List ReporterState) : Type 0 where
  pub names : map (λ (r : ReporterState). r.called) reporters ≡ map (λ (r : ReporterState). r.called) both_styles
  pub styles : (reports : List Report) → map (λ (r : ReporterState). r.style reports) reporters ≡ map (λ (r : ReporterState). r.style reports) both_styles

-- THE TEXT OF REPORTS by the format that is named: a line for each where none is, a table, or lines of JSON
abbrev pub IsTextIn : Option Bytes → List Report → Bytes → Type 0
IsTextIn None reports text = text ≡ text_of reports
IsTextIn (Some name) reports text = ((name ≡ codes "table") × (text ≡ report_table reports)) ⊎ ((name ≡ codes "json") × (text ≡ json_of reports))

-- the reports of the files of a request were printed in its format, and nothing else but a line of statistics, where it asks for them; and the status
-- says whether there are any reports
pub record PrintsAsAsked (run : Run) (request : Request) : Type 0 where
  pub reports : List Report
  pub accepted : AreAccepted (may_hold run.told) (filter is_checker_word request.files) (filter is_source_word request.files) request.depth reports
  pub status : run.status ≡ status_of reports
  pub text : Bytes
  pub text_is : IsTextIn request.format reports text
  pub printed : Took run.out text
  pub line : Bytes
  pub line_is : IsLineFor request.stats (checkers_in accepted.judged.machines request.depth accepted.judged.names) accepted.judged.texts line
  pub noted : Took run.errs line

pub record PromiseInStyles {Files : Type 0} (files_before files_after : Files) (Hands : Bytes → Bytes → Type 0) (run : Run) : Type 0 where
  -- What every run promises.
  pub promise : Promise files_before files_after Hands run
  -- And a request that ends in its reports has them in its format.
  pub in_format : (request : Request) → IsRequest run.words request → (run.status ≡ Clean) ⊎ (run.status ≡ Reports) → PrintsAsAsked run request
