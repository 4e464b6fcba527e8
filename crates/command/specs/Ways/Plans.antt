-- A way to prove what a run is due: what is planned.
-- What is planned where the files of a command gave no reports.
use Rattle.std.specs.Prelude.{◌≡◌, ◌<◌, ℕ, [], slice_get, Some}
use Rattle.mx_io.specs.Bytes.{Bytes, Words}
use Rattle.command.specs.Due.{not_read_line}
use Rattle.command.specs.declared.status.Status.{Status}
use Rattle.command.specs.declared.status.Status.TheVariants as status
use Rattle.command.specs.declared.judged_files.unjudged.Unjudged.{Unjudged}
use Rattle.command.specs.declared.judged_files.unjudged.Unjudged.TheVariants.{NotRead, Faulty, NoMemory}
use Rattle.request_files.specs.Faults.{refused_line}
use Rattle.request_files.specs.Turns.{Turn, turns}
use Rattle.request_files.specs.Views.{located_of}

-- the position is that of one of so many files
abbrev pub IsAmong : ℕ → Unjudged → Type 0
IsAmong count (NotRead position) = position < count
IsAmong count (Faulty l) = Unit {0}
IsAmong count NoMemory = Unit {0}

-- what is planned for it
abbrev pub IsPlanOf : Words → Words → Unjudged → Status → Bytes → Bytes → Type 0
IsPlanOf checkers sources (NotRead position) s text line =
    (s ≡ status.ReadFault) × (text ≡ []) × ((t : Turn) → slice_get (turns checkers sources) position ≡ Some t → line ≡ not_read_line t.word)
IsPlanOf checkers sources (Faulty l) s text line = (s ≡ status.Refused) × (text ≡ []) × (line ≡ refused_line (located_of l))
IsPlanOf checkers sources NoMemory s text line = ⊥
