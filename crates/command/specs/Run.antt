-- WHAT A RUN PROMISES: the contract of `run`, and the page to begin with. First what a run is handed and what it leaves, then what it did by
-- each way in which it can end, and last the promise, field by field. What words ask for stands in `Commands`, what is due in `Due`, how reports
-- look in `Rendered`, the line of statistics in `Counted`, what a sink takes and is handed in `Written`, what files mean in `JudgedFiles`, and a
-- generated program in `Measured`.
use Rattle.std.specs.Prelude.{◌≡◌, ◌≢◌, ◌⊎◌, ℕ, List, [], map, slice_get}
use Rattle.command_words.specs.Generation.{IsGeneration}
use Rattle.report_model.specs.declared.report.Report.{Report}
use Rattle.request_files.specs.Faults.{Located, refused_line}
use Rattle.request_files.specs.Reading.{UnsoundAt, at_first}
use Rattle.request_files.specs.Telling.{AreReadable, Tells, may_hold, surely_holds}
use Rattle.mx_io.specs.Bytes.{Bytes, Readable, Told, Words}
use Rattle.command.specs.CheckerReports.Checkers.{checkers_in}
use Rattle.command.specs.Commands.{Command, GiveNone, IsCommand, IsOther, checkers_of, sources_of, turns_of}
use Rattle.command.specs.Counted.{IsLineFor}
use Rattle.command.specs.Due.{IsDue, IsLacking, IsMeasuredAs, IsMisused, IsOneLine, IsRefused, IsReported, usage_line}
use Rattle.command.specs.JudgedFiles.FirstFault.{IsFirstFault}
use Rattle.command.specs.JudgedFiles.Judged.{AreJudged, AreLinked}
use Rattle.command.specs.Measured.{IsMeasured, measure_line}
use Rattle.command.specs.Ran.{DidAs, DidOneAs, IsEmptied, Ran, RanHanding, ReporterStep, Stops, reporter_step}
use Rattle.command.specs.Rendered.{IsText}
use Rattle.command.specs.Statuses.{status_of}
use Rattle.command.specs.Written.{Fits, IsStill, NoWriteFailed, SinkStep, Took, WriteFailed}
use Rattle.command.specs.declared.status.Status.{Status}
use Rattle.command.specs.declared.status.Status.TheVariants.{Clean, Reports, Usage, Refused, ReadFault, WriteFault, NoMemory}

-- ---- WHAT A RUN IS HANDED, AND WHAT IT LEAVES

-- a reporter as it stands: its name, what its style makes of a list of reports, and the reports that it holds
pub record ReporterState : Type 0 where
  pub called : Bytes
  pub style : List Report → Bytes
  pub taken : List Report

abbrev pub reporter_state : Bytes → (List Report → Bytes) → List Report → ReporterState
reporter_state called style taken = record { called = called; style = style; taken = taken }

-- A RUN
pub record Run : Type 0 where
  -- the words behind the program's name
  pub words : Words
  -- what is told of the bytes in each file
  pub told : Told
  -- which files are readable: no read of them fails
  pub readable : Readable
  -- the names of the files whose reads failed, before the run and behind it
  pub failed_before : Words
  pub failed_after : Words
  -- the reporters, before the run and behind it
  pub reporters_before : List ReporterState
  pub reporters_after : List ReporterState
  -- standard output and standard error: what each had taken and how many of its writes had failed before the run, and the same behind it; and how
  -- many bytes each surely takes
  pub out : SinkStep
  pub errs : SinkStep
  -- how it ended
  pub status : Status

-- the names of the reporters, what each renders of a list of reports, and what each held and holds
abbrev pub called_in : Run → Words
called_in run = map (λ (r : ReporterState). r.called) run.reporters_before

abbrev pub rendered_in : Run → List Report → List Bytes
rendered_in run = λ (reports : List Report). map (λ (r : ReporterState). r.style reports) run.reporters_before

abbrev pub reporters_in : Run → ReporterStep
reporters_in run = reporter_step (called_in run) (rendered_in run) (map (λ (r : ReporterState). r.taken) run.reporters_before) (map (λ (r : ReporterState). r.taken) run.reporters_after)

-- ---- WORDS FOR A RUN

-- the words give this command, which may choose one of the reporters
abbrev pub Gives : Run → Command → Type 0
Gives run command = IsCommand run.words (called_in run) command

-- no read failed
abbrev pub NoReadFailed : Run → Type 0
NoReadFailed run = run.failed_after ≡ run.failed_before

-- no reporter was handed anything
abbrev pub NoReporterTook : Run → Type 0
NoReporterTook run = (reporters_in run).after ≡ (reporters_in run).before

-- standard output took just this text, standard error just this line, and no write failed
pub record Writes (run : Run) (text line : Bytes) : Type 0 where
  pub text_taken : Took run.out text
  pub line_taken : Took run.errs line
  pub out_still : IsStill run.out
  pub errs_still : IsStill run.errs

-- this status, text and line are due, if files hold what they may by what is told of them; and if only what is told counts
abbrev pub MayBeDue : Run → Status → Bytes → Bytes → Type 0
MayBeDue run status text line = IsDue (may_hold run.told) run.words (called_in run) (rendered_in run) run.failed_before run.failed_after status text line

abbrev pub IsSurelyDue : Run → Status → Bytes → Bytes → Type 0
IsSurelyDue run status text line = IsDue (surely_holds run.told) run.words (called_in run) (rendered_in run) run.failed_before run.failed_after status text line

-- this was written, as far as the sinks took it, or there was no memory before the first write
abbrev pub Did : Run → Status → Bytes → Bytes → Type 0
Did run status text line = DidAs status text line run.status run.out run.errs

-- the lines are the same, or both are lines of statistics, for which the words ask, of what is told of the files
abbrev pub AreOneLine : Run → Status → Bytes → Bytes → Type 0
AreOneLine run status line next = IsOneLine (surely_holds run.told) run.words (called_in run) status line next

-- the text and one such line was written, as far as the sinks took it, or there was no memory before the first write
abbrev pub DidOne : Run → Status → Bytes → Bytes → Type 0
DidOne run status text line = DidOneAs (surely_holds run.told) run.words (called_in run) status text line run.status run.out run.errs

-- the run ended with this status, but for a failed write or want of memory
abbrev pub EndsIn : Run → Status → Type 0
EndsIn run status = (run.status ≡ status) ⊎ ((run.status ≡ WriteFault) ⊎ (run.status ≡ NoMemory))

-- ---- WHAT A RUN DID

-- no memory before the first write, or what the run is due, written as far as the sinks took it
abbrev pub RanAsDue : Run → Type 0
RanAsDue run = Ran (may_hold run.told) run.words (reporters_in run) run.failed_before run.failed_after run.status run.out run.errs

-- the same, and the text and the line were handed to the sinks in this way
abbrev pub HandsAsDue : (Bytes → Bytes → Type 0) → Run → Type 0
HandsAsDue Hands run = RanHanding Hands (may_hold run.told) run.words (reporters_in run) run.failed_before run.failed_after run.status run.out run.errs

-- the words give a command, its files were read and have no fault, and their reports, which are of the kind that is asked, were written, and the
-- line of statistics, where the command asks for it; the chosen reporter is empty
pub record Prints (run : Run) (IsAsked : List Report → Type 0) : Type 0 where
  pub command : Command
  pub given : Gives run command
  pub text : Bytes
  pub line : Bytes
  pub cause : IsReported (may_hold run.told) command (rendered_in run) run.failed_before run.failed_after run.status text line
  pub asked : IsAsked cause.reports
  pub writes : Writes run text line
  pub empty : IsEmptied run.words (reporters_in run)

-- the words ask for a generation, no read failed, and the line of the generated program was written, whose reports are of the kind that is asked
pub record Measures (run : Run) (IsAsked : List Report → Type 0) : Type 0 where
  pub count : ℕ
  pub is_generation : IsGeneration run.words count
  pub text : Bytes
  pub cause : IsMeasuredAs count run.status text []
  pub asked : IsAsked cause.reports
  pub none_failed : NoReadFailed run
  pub writes : Writes run text []
  pub kept : NoReporterTook run

-- one of the two
abbrev pub Answers : Run → (List Report → Type 0) → Type 0
Answers run IsAsked = Prints run IsAsked ⊎ Measures run IsAsked

-- the words give no command and ask for no generation, no read failed, and the line on the use of the command was written
pub record Misuses (run : Run) : Type 0 where
  pub cause : IsMisused run.words (called_in run) run.failed_before run.failed_after run.status [] usage_line
  pub writes : Writes run [] usage_line
  pub kept : NoReporterTook run

-- the words give a command, a file or linking has the first fault, no read failed before, and the line of this fault was written
pub record Refuses (run : Run) : Type 0 where
  pub command : Command
  pub given : Gives run command
  pub line : Bytes
  pub cause : IsRefused (may_hold run.told) command run.failed_before run.failed_after run.status [] line
  pub writes : Writes run [] line
  pub kept : NoReporterTook run

-- the words give a command, the read of one of its files failed, and no other, those before it have no fault, and the line that names it was written
pub record Misses (run : Run) : Type 0 where
  pub command : Command
  pub given : Gives run command
  pub line : Bytes
  pub cause : IsLacking (may_hold run.told) command run.failed_before run.failed_after run.status [] line
  pub writes : Writes run [] line
  pub kept : NoReporterTook run

-- there was no memory: both sinks are untouched, and at most one read failed, that of a file whose turn had come
abbrev pub StopsFirst : Run → Type 0
StopsFirst run = Stops (may_hold run.told) run.words (reporters_in run) run.failed_before run.failed_after run.status run.out run.errs

-- the reports of these contents were written, and the line of statistics, where the command asks for it; the status says whether there are any reports
pub record Completes (run : Run) (command : Command) (contents : List Bytes) : Type 0 where
  pub reports : List Report
  pub judged : AreJudged (checkers_of command) (sources_of command) contents command.depth reports
  pub status : run.status ≡ status_of reports
  pub text : Bytes
  pub text_is : IsText command.place (rendered_in run reports) reports text
  pub printed : Took run.out text
  pub line : Bytes
  pub line_is : IsLineFor command.stats (checkers_in judged.machines command.depth judged.names) judged.texts line
  pub noted : Took run.errs line

-- the line of the generated program of this number was written, and the status says whether there are reports
pub record CompletesMeasure (run : Run) (count : ℕ) : Type 0 where
  pub reports : List Report
  pub measured : IsMeasured count reports
  pub status : run.status ≡ status_of reports
  pub printed : Took run.out (measure_line count reports)
  pub nothing : Took run.errs []

-- ---- THE PROMISE of a run, by the files before it and behind it, and by what it is to hand a text to `out` and a line to `errs`

pub record Promise {Files : Type 0} (files_before files_after : Files) (Hands : Bytes → Bytes → Type 0) (run : Run) : Type 0 where
  -- All of it: no memory before the first write, or what the run is due, written as far as the sinks took it.
  pub ran : RanAsDue run
  -- Each write is handed all that isn't taken yet.
  pub handed : HandsAsDue Hands run
  -- And nothing else: what is due by what is told of the files that are read is what the run did. At most one status, one text and one line is
  -- due, up to the number in a line of statistics (`one_answer::due_is_unique`); without statistics one line (`one_answer::plain_due_is_unique`).
  pub determined : (status : Status) (text line : Bytes) → IsSurelyDue run status text line → DidOne run status text line
  -- THE SEVEN STATUSES, and what each says.
  -- 0: no error was found. The exact list of reports is empty.
  pub clean : run.status ≡ Clean → Answers run (λ reports. reports ≡ [])
  -- 1: the exact list of reports isn't empty, and was written. What is in such a list is said by flat lists of events,
  -- calls and returns (`CheckerReports/Errors`); nested paths report the same (`one_answer::nested_paths_report_the_same`). A return hands
  -- back what becomes of the callee's objects (`path_model::calls_hand_back_what_becomes`).
  pub reports : run.status ≡ Reports → Answers run (λ reports. reports ≢ [])
  -- 2: the words are none of the command.
  pub usage : run.status ≡ Usage → Misuses run
  -- 3: a file was refused, by the first fault of all files.
  pub refused : run.status ≡ Refused → Refuses run
  -- 4: a file wasn't read.
  pub read_fault : run.status ≡ ReadFault → Misses run
  -- 5: a write failed.
  pub write_fault : run.status ≡ WriteFault → WriteFailed run.out ⊎ WriteFailed run.errs
  -- 6: there was no memory, and nothing was written.
  pub no_memory : run.status ≡ NoMemory → StopsFirst run
  -- WHAT LEADS TO THEM.
  -- A command whose files are told and have no first fault ends in its reports, where no call failed and there was memory.
  pub complete : (command : Command) (contents : List Bytes) → Gives run command → Tells run.told (turns_of command) contents →
      ((l : Located) → IsFirstFault (surely_holds run.told) (checkers_of command) (sources_of command) l → ⊥) →
      NoReadFailed run → NoWriteFailed run.out → NoWriteFailed run.errs → run.status ≢ NoMemory → Completes run command contents
  -- A command with this first fault, by what is told up to there, is refused in its line.
  pub faulty : (command : Command) (l : Located) → Gives run command →
      IsFirstFault (surely_holds run.told) (checkers_of command) (sources_of command) l →
      NoReadFailed run → Did run Refused [] (refused_line l)
  -- A command with a file that isn't sound, in its turn and by what is told up to there, is refused.
  pub unsound : (command : Command) (position : ℕ) → Gives run command →
      UnsoundAt (surely_holds run.told) at_first (turns_of command) position →
      NoReadFailed run → EndsIn run Refused
  -- A command whose files are told and can't be linked is refused.
  pub unlinked : (command : Command) (contents : List Bytes) → Gives run command → Tells run.told (turns_of command) contents →
      (AreLinked (checkers_of command) (sources_of command) contents → ⊥) →
      NoReadFailed run → EndsIn run Refused
  -- Words that ask for a generation end in its line, where no write failed and there was memory.
  pub measured : (count : ℕ) → IsGeneration run.words count → NoWriteFailed run.out → NoWriteFailed run.errs → run.status ≢ NoMemory →
      CompletesMeasure run count
  -- Words that ask for a generation are never refused.
  pub generation : (count : ℕ) → IsGeneration run.words count → (run.status ≡ Clean) ⊎ EndsIn run Reports
  -- Words that give nothing to do are misused.
  pub no_command : GiveNone run.words (called_in run) → EndsIn run Usage
  -- What is due and fits, with its line or another of the same statistics, into sinks that are known not to fail ends in its status: no write fails.
  pub fitting : (status : Status) (text line : Bytes) → IsSurelyDue run status text line →
      ((next : Bytes) → AreOneLine run status line next → Fits text next run.out run.errs) → (run.status ≡ status) ⊎ (run.status ≡ NoMemory)
  -- A command whose files are readable is read: no read fails, and it doesn't end in one.
  pub readable : (command : Command) → Gives run command → AreReadable run.readable (turns_of command) → NoReadFailed run × (run.status ≢ ReadFault)
  -- A failed read is told.
  pub failed : run.failed_after ≢ run.failed_before → EndsIn run ReadFault
  -- WHAT IS LEFT ALONE.
  -- A generation touches no file.
  pub untouched : (count : ℕ) → IsGeneration run.words count → files_after ≡ files_before
  -- Neither do words that give nothing to do.
  pub unread : GiveNone run.words (called_in run) → files_after ≡ files_before
  -- The reporters keep their names,
  pub names : map (λ (r : ReporterState). r.called) run.reporters_after ≡ called_in run
  -- and their styles;
  pub styles : map (λ (r : ReporterState). r.style) run.reporters_after ≡ map (λ (r : ReporterState). r.style) run.reporters_before
  -- and one that the words don't choose holds what it held.
  pub others : (k : ℕ) → IsOther run.words (called_in run) k → slice_get (reporters_in run).after k ≡ slice_get (reporters_in run).before k
