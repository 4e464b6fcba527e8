-- What a run does: it stops for want of memory before the first write, or carries out what it is due.
use Rattle.std.specs.Prelude.{◌≡◌, ℕ, ◌⊎◌, MatchBool, List}
use Rattle.report_model.specs.declared.report.Report.{Report}
use Rattle.command_words.specs.Generation.{IsGeneration}
use Rattle.mx_io.specs.Bytes.{Bytes, Words}
use Rattle.command.specs.Commands.{Command, IsCommand}
use Rattle.command.specs.Due.{IsDue, IsOneLine, FailedInTurn}
use Rattle.command.specs.declared.status.Status.{Status}
use Rattle.command.specs.declared.status.Status.TheVariants.{NoMemory}
use Rattle.command.specs.Statuses.{is_of_reports}
use Rattle.command.specs.Tasks.{IsEmptiedAt}
use Rattle.command.specs.Written.{Fits, SinkStep, Written}

-- nothing was written to the sink
abbrev pub Untouched : SinkStep → Type 0
Untouched s = (s.after ≡ s.before) × (s.faults_after ≡ s.faults_before)

-- reporters before and after: their names, what each renders for a list, and what each held and holds
pub record ReporterStep : Type 0 where
  pub called : Words
  pub rendered : List Report → List Bytes
  pub before : List (List Report)
  pub after : List (List Report)

abbrev pub reporter_step : Words → (List Report → List Bytes) → List (List Report) → List (List Report) → ReporterStep
reporter_step called rendered before after = record { called = called; rendered = rendered; before = before; after = after }

-- the chosen reporter is empty
abbrev pub IsEmptied : Words → ReporterStep → Type 0
IsEmptied words r = (command : Command) → IsCommand words r.called command → IsEmptiedAt command.place r.after

-- what holds of the reporters by what is due: the chosen one was handed the reports and is empty again, or none was handed anything
abbrev pub Leaves : Words → ReporterStep → Status → Type 0
Leaves words r status = MatchBool (is_of_reports status) (IsEmptied words r) (r.after ≡ r.before)

-- no reporter was handed anything, where the words ask for a generation
abbrev pub Spares : Words → ReporterStep → Type 0
Spares words r = (count : ℕ) → IsGeneration words count → r.after ≡ r.before

-- there was no memory before the first write
pub record Stops (Holds : Bytes → Bytes → Type 0) (words : Words) (r : ReporterStep) (old new : Words) (result : Status) (out errs : SinkStep) : Type 0 where
  pub status : result ≡ NoMemory
  pub turn : FailedInTurn Holds words r.called old new
  pub out_same : Untouched out
  pub errs_same : Untouched errs

-- what the run is due was written, as far as the sinks took it
pub record CarriesOut (Holds : Bytes → Bytes → Type 0) (words : Words) (r : ReporterStep) (old new : Words) (result : Status) (out errs : SinkStep) : Type 0 where
  pub status : Status
  pub text : Bytes
  pub line : Bytes
  pub due : IsDue Holds words r.called r.rendered old new status text line
  pub leaves : Leaves words r status
  pub spares : Spares words r
  pub written : Written status text line result out errs
  pub fitting : Fits text line out errs → result ≡ status

abbrev pub Ran : (Bytes → Bytes → Type 0) → Words → ReporterStep → Words → Words → Status → SinkStep → SinkStep → Type 0
Ran Holds words r old new result out errs = Stops Holds words r old new result out errs ⊎ CarriesOut Holds words r old new result out errs

-- the same, and how the text and the line were handed to the sinks is said by a word that is handed in
abbrev pub RanHanding : (Bytes → Bytes → Type 0) → (Bytes → Bytes → Type 0) → Words → ReporterStep → Words → Words → Status → SinkStep → SinkStep → Type 0
RanHanding Hands Holds words r old new result out errs =
    Stops Holds words r old new result out errs ⊎ ((c : CarriesOut Holds words r old new result out errs) × Hands c.text c.line)

-- this was written, as far as the sinks took it, or there was no memory before the first write
abbrev pub DidAs : Status → Bytes → Bytes → Status → SinkStep → SinkStep → Type 0
DidAs status text line result out errs = ((result ≡ NoMemory) × Untouched out × Untouched errs) ⊎ Written status text line result out errs

-- the same with one line: this one, or another of the same statistics
abbrev pub DidOneAs : (Bytes → Bytes → Type 0) → Words → Words → Status → Bytes → Bytes → Status → SinkStep → SinkStep → Type 0
DidOneAs Holds words called status text line result out errs = (next : Bytes) × IsOneLine Holds words called status line next × DidAs status text next result out errs
