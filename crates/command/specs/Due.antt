-- What a run is due: a status, the text for `out` and the line for `errs`. There are five causes, each with what is due by it. Which bytes stand in a
-- file is said by a word that is handed in.
use Rattle.std.specs.Prelude.{◌≡◌, ◌⊎◌, ℕ, true, List, [], ◌∷◌, ◌++◌, codes}
use Rattle.report_model.specs.declared.report.Report.{Report}
use Rattle.command_words.specs.Generation.{IsGeneration}
use Rattle.mx_io.specs.Bytes.{Bytes, Words}
use Rattle.command.specs.Commands.{Command, IsCommand, GiveNone, checkers_of, sources_of, turns_of}
use Rattle.command.specs.Counted.{IsLineFor, IsStatsLine}
use Rattle.command.specs.Measured.{IsMeasured, measure_line}
use Rattle.command.specs.Rendered.{IsText}
use Rattle.command.specs.declared.status.Status.{Status}
use Rattle.command.specs.declared.status.Status.TheVariants.{Usage, Refused, ReadFault}
use Rattle.command.specs.Statuses.{status_of}
use Rattle.command.specs.CheckerReports.Checkers.{checkers_in}
use Rattle.command.specs.JudgedFiles.FirstFault.{IsFirstFault}
use Rattle.command.specs.JudgedFiles.Judged.{AreAccepted}
use Rattle.request_files.specs.Faults.{Located, refused_line}
use Rattle.request_files.specs.Reading.{FailedAt, at_first}

abbrev pub usage_line : Bytes
usage_line = codes "usage: metalcheck [--depth N] [--format NAME] [--stats] FILE..." ++ 10 ∷ []

abbrev pub not_read_line : Bytes → Bytes
not_read_line name = name ++ (codes ": not read" ++ 10 ∷ [])

-- at most one read failed: that of a file of the command whose turn had come
abbrev pub FailedInTurnOf : (Bytes → Bytes → Type 0) → Command → Words → Words → Type 0
FailedInTurnOf Holds command old new = (new ≡ old) ⊎ ((position : ℕ) × FailedAt Holds at_first (turns_of command) old new position)

abbrev pub FailedInTurn : (Bytes → Bytes → Type 0) → Words → Words → Words → Words → Type 0
FailedInTurn Holds words called old new = (new ≡ old) ⊎ ((command : Command) × IsCommand words called command × ((position : ℕ) × FailedAt Holds at_first (turns_of command) old new position))

-- ---- THE FIVE CAUSES

-- the files of the command were read without a fault, these are their reports, and the line says how many entries the logs of their checkers have,
-- where that is asked for
pub record IsReported (Holds : Bytes → Bytes → Type 0) (command : Command) (rendered : List Report → List Bytes) (old new : Words) (status : Status) (text line : Bytes) : Type 0 where
  pub reports : List Report
  pub accepted : AreAccepted Holds (checkers_of command) (sources_of command) command.depth reports
  pub none_failed : new ≡ old
  pub status_is : status ≡ status_of reports
  pub text_is : IsText command.place (rendered reports) reports text
  pub line_is : IsLineFor command.stats (checkers_in accepted.judged.machines command.depth accepted.judged.names) accepted.judged.texts line

-- a file has the first fault, or linking has it, and no read failed before
pub record IsRefused (Holds : Bytes → Bytes → Type 0) (command : Command) (old new : Words) (status : Status) (text line : Bytes) : Type 0 where
  pub fault : Located
  pub first : IsFirstFault Holds (checkers_of command) (sources_of command) fault
  pub none_failed : new ≡ old
  pub status_is : status ≡ Refused
  pub text_is : text ≡ []
  pub line_is : line ≡ refused_line fault

-- a read failed
pub record IsLacking (Holds : Bytes → Bytes → Type 0) (command : Command) (old new : Words) (status : Status) (text line : Bytes) : Type 0 where
  pub position : ℕ
  pub failed : FailedAt Holds at_first (turns_of command) old new position
  pub status_is : status ≡ ReadFault
  pub text_is : text ≡ []
  pub line_is : line ≡ not_read_line failed.is_turn.turn.word

-- the generated program of a number was judged, and these are its reports
pub record IsMeasuredAs (count : ℕ) (status : Status) (text line : Bytes) : Type 0 where
  pub reports : List Report
  pub measured : IsMeasured count reports
  pub status_is : status ≡ status_of reports
  pub text_is : text ≡ measure_line count reports
  pub line_is : line ≡ []

-- the words give no command and ask for no generation, and nothing was read
pub record IsMisused (words called old new : Words) (status : Status) (text line : Bytes) : Type 0 where
  pub none : GiveNone words called
  pub none_failed : new ≡ old
  pub status_is : status ≡ Usage
  pub text_is : text ≡ []
  pub line_is : line ≡ usage_line

-- ---- WHICH OF THEM THERE IS

-- what is due for a command
abbrev pub IsDueFor : (Bytes → Bytes → Type 0) → Command → (List Report → List Bytes) → Words → Words → Status → Bytes → Bytes → Type 0
IsDueFor Holds command rendered old new status text line =
    IsReported Holds command rendered old new status text line ⊎ (IsRefused Holds command old new status text line ⊎ IsLacking Holds command old new status text line)

-- the words give a command, and this is due for it
pub record HasTask (Holds : Bytes → Bytes → Type 0) (words called : Words) (rendered : List Report → List Bytes) (old new : Words) (status : Status) (text line : Bytes) : Type 0 where
  pub command : Command
  pub given : IsCommand words called command
  pub due : IsDueFor Holds command rendered old new status text line

-- the words ask for a generation, nothing was read, and this is due for it
pub record HasGeneration (words old new : Words) (status : Status) (text line : Bytes) : Type 0 where
  pub count : ℕ
  pub is_generation : IsGeneration words count
  pub none_failed : new ≡ old
  pub due : IsMeasuredAs count status text line

-- WHAT A RUN IS DUE
abbrev pub IsDue : (Bytes → Bytes → Type 0) → Words → Words → (List Report → List Bytes) → Words → Words → Status → Bytes → Bytes → Type 0
IsDue Holds words called rendered old new status text line =
    IsMisused words called old new status text line ⊎ (HasTask Holds words called rendered old new status text line ⊎ HasGeneration words old new status text line)

-- ---- WHAT IS LEFT OPEN: one number, where statistics are asked for. How many entries a log has is given by the blocks into which the functions are
-- cut, and graphs may cut them in more than one way.

-- the command asks for statistics, its files were read without a fault, and both of these lines say how many entries the logs of their checkers have
pub record AreStatistics (Holds : Bytes → Bytes → Type 0) (command : Command) (status : Status) (line next : Bytes) : Type 0 where
  pub asked : command.stats ≡ true
  pub reports : List Report
  pub accepted : AreAccepted Holds (checkers_of command) (sources_of command) command.depth reports
  pub status_is : status ≡ status_of reports
  pub line_is : IsStatsLine (checkers_in accepted.judged.machines command.depth accepted.judged.names) accepted.judged.texts line
  pub next_is : IsStatsLine (checkers_in accepted.judged.machines command.depth accepted.judged.names) accepted.judged.texts next

-- ONE LINE: the same, or both are such lines of the command that the words give
abbrev pub IsOneLine : (Bytes → Bytes → Type 0) → Words → Words → Status → Bytes → Bytes → Type 0
IsOneLine Holds words called status line next = (line ≡ next) ⊎ ((command : Command) × IsCommand words called command × AreStatistics Holds command status line next)
