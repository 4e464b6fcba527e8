-- THE FIRST FAULT of a request, and why its files gave no reports.
use Rattle.std.specs.Prelude.{◌≡◌, ◌⊎◌, ℕ, List}
use Rattle.typed_unit.specs.Texts.{Text}
use Rattle.mx_io.specs.Bytes.{Bytes, Words}
use Rattle.command.specs.JudgedFiles.Judged.{AreAllSound}
use Rattle.command.specs.JudgedFiles.Linking.{AreUnlinked, HaveLinkFault}
use Rattle.command.specs.declared.judged_files.unjudged.Unjudged.{Unjudged}
use Rattle.command.specs.declared.judged_files.unjudged.Unjudged.TheVariants.{NotRead, Faulty, NoMemory}
use Rattle.request_files.specs.Faults.{Located}
use Rattle.request_files.specs.Reading.{FailedAt, FaultyAt, at_first}
use Rattle.request_files.specs.Turns.{turns}
use Rattle.request_files.specs.Views.{located_of}

-- all files were read and none has a fault of its own, and linking has this one
pub record HaveLinkFaultAt (Holds : Bytes → Bytes → Type 0) (checkers sources : Words) (l : Located) : Type 0 where
  pub contents : List Bytes
  pub sound : AreAllSound Holds checkers sources contents
  pub fault : HaveLinkFault checkers sources contents l

-- the fault is that of a file, where those before it were read and have none; else that of linking
abbrev pub IsFirstFault : (Bytes → Bytes → Type 0) → Words → Words → Located → Type 0
IsFirstFault Holds checkers sources l = ((position : ℕ) × FaultyAt Holds at_first (turns checkers sources) position l) ⊎ HaveLinkFaultAt Holds checkers sources l

-- why the files of a request gave no reports, and which reads failed
abbrev pub AnswersUnjudged : (Bytes → Bytes → Type 0) → Words → Words → Words → Words → Unjudged → Type 0
AnswersUnjudged Holds checkers sources old new (NotRead position) = FailedAt Holds at_first (turns checkers sources) old new position
AnswersUnjudged Holds checkers sources old new (Faulty l) = IsFirstFault Holds checkers sources (located_of l) × (new ≡ old)
AnswersUnjudged Holds checkers sources old new NoMemory = new ≡ old

-- why typed units gave no reports
abbrev pub AnswersUnlinked : List Bytes → List Text → Unjudged → Type 0
AnswersUnlinked names texts (NotRead position) = ⊥
AnswersUnlinked names texts (Faulty l) = AreUnlinked names texts (located_of l)
AnswersUnlinked names texts NoMemory = Unit {0}
