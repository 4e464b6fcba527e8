-- A way to prove what is read of files: what each stage answers.
-- WHAT THE STAGES OF READING ANSWER.
use Rattle.std.specs.Prelude.{◌≡◌, ℕ, ◌≤◌, ◌<◌, min, List, [], ◌∷◌, ◌++◌, length, slice_get, Option, Some, Result, Ok, Err, Vec}
use Rattle.c_lexer.specs.Tokens.{TokenList}
use Rattle.c_tree.specs.declared.token.Token.{Token}
use Rattle.typed_unit.specs.Texts.{Text}
use Rattle.request_files.specs.declared.front_end.refusal.Faulty.{Faulty}
use Rattle.request_files.specs.declared.front_end.refusal.Refusal.{Refusal}
use Rattle.request_files.specs.declared.front_end.refusal.Refusal.TheVariants as refusals
use Rattle.metal_tree.specs.MetalMachines.Machine.{Machine}
use Rattle.mx_io.specs.Bytes.{Bytes, Words}
use Rattle.mx_io.specs.Reads.{Stands}
use Rattle.request_files.specs.Faults.{Before, HasFault, HasNoUnitAt, at_start, file_limit}
use Rattle.request_files.specs.Meanings.{IsChecker, IsSource}
use Rattle.request_files.specs.Turns.{Turn}
use Rattle.request_files.specs.Views.{located_of}
use Rattle.request_files.specs.declared.fault.Fault.{Fault}
use Rattle.request_files.specs.declared.fault.LocatedFault.{LocatedFault}
use Rattle.request_files.specs.declared.file.Missing.{Missing}
use Rattle.request_files.specs.declared.file.Missing.TheVariants.{NotRead, TooLarge, NoMemory}
use Rattle.request_files.specs.declared.stopped.Stopped.{Stopped}
use Rattle.request_files.specs.declared.stopped.Stopped.TheVariants as stops

-- the contents, where at most so many bytes may come
abbrev pub AnswersFile : {A : Type 0} → Option Bytes → ℕ → Result (Vec ℕ A) Missing → Type 0
AnswersFile told left (Ok bytes) = Stands told bytes.items × (length bytes.items ≤ min file_limit left)
AnswersFile told left (Err NotRead) = Unit {0}
AnswersFile told left (Err TooLarge) = (bytes : Bytes) × Stands told bytes × (min file_limit left < length bytes)
AnswersFile told left (Err NoMemory) = Unit {0}

-- the names whose reads failed, after one more read
abbrev pub failed_after_file : {A : Type 0} → Words → Bytes → Result (Vec ℕ A) Missing → Words
failed_after_file failed name (Ok bytes) = failed
failed_after_file failed name (Err NotRead) = failed ++ name ∷ []
failed_after_file failed name (Err TooLarge) = failed
failed_after_file failed name (Err NoMemory) = failed

-- a fault of a whole file
abbrev pub IsAtStart : Bytes → Fault → Stopped → Type 0
IsAtStart word fault stops.NotRead = ⊥
IsAtStart word fault (stops.Faulty l) = located_of l ≡ at_start word fault
IsAtStart word fault stops.NoMemory = Unit {0}

-- the presumed file is among the names
abbrev pub IsNamed : List Bytes → ℕ → Type 0
IsNamed names source = (file : Bytes) × (slice_get names source ≡ Some file)

abbrev pub AreNamed : List Bytes → List Token → Type 0
AreNamed names [] = Unit {0}
AreNamed names (t ∷ ts) = IsNamed names t.source × AreNamed names ts

-- the presumed files of these tokens, and of the end behind them, are among the names
pub record AreKnown (names : List Bytes) (list : TokenList) : Type 0 where
  pub all : AreNamed names list.all
  pub end : IsNamed names list.end.source

-- the presumed file of a fault is among the names
abbrev pub IsKnown : List Bytes → Refusal → Type 0
IsKnown names (refusals.Faulty found) = IsNamed names found.source
IsKnown names refusals.NoMemory = Unit {0}

-- a fault on this line of the presumed file with this number
pub record IsLocated (names : List Bytes) (fault : Fault) (source line : ℕ) (l : LocatedFault) : Type 0 where
  pub fault_is : l.fault ≡ fault
  pub file : slice_get names source ≡ Some l.file.items
  pub line_is : l.line ≡ line

abbrev pub IsThere : List Bytes → Fault → ℕ → ℕ → Stopped → Type 0
IsThere names fault source line stops.NotRead = ⊥
IsThere names fault source line (stops.Faulty l) = IsLocated names fault source line l
IsThere names fault source line stops.NoMemory = Unit {0}

-- the fault that was found, on that line of that file
abbrev pub IsRefused : List Bytes → Refusal → Stopped → Type 0
IsRefused names refusals.NoMemory stop = stop ≡ stops.NoMemory
IsRefused names (refusals.Faulty found) stop = IsThere names found.fault found.source found.line stop

-- why the tokens of a C file gave nothing
abbrev pub HasNoUnit : List Bytes → TokenList → Stopped → Type 0
HasNoUnit names list stops.NotRead = ⊥
HasNoUnit names list (stops.Faulty l) = (found : Faulty) × IsLocated names found.fault found.source found.line l × HasNoUnitAt list found
HasNoUnit names list stops.NoMemory = Unit {0}

-- why the bytes of a file gave nothing
abbrev pub IsUnread : Before → Turn → Bytes → Stopped → Type 0
IsUnread b t bytes stops.NotRead = ⊥
IsUnread b t bytes (stops.Faulty l) = HasFault b t bytes (located_of l)
IsUnread b t bytes stops.NoMemory = Unit {0}

-- why a file gave nothing
abbrev pub AnswersStopped : Option Bytes → Before → Turn → Stopped → Type 0
AnswersStopped told b t stops.NotRead = Unit {0}
AnswersStopped told b t (stops.Faulty l) = (bytes : Bytes) × Stands told bytes × HasFault b t bytes (located_of l)
AnswersStopped told b t stops.NoMemory = Unit {0}

-- the names whose reads failed, after a file that gave nothing
abbrev pub failed_after_stop : Words → Bytes → Stopped → Words
failed_after_stop failed name stops.NotRead = failed ++ name ∷ []
failed_after_stop failed name (stops.Faulty l) = failed
failed_after_stop failed name stops.NoMemory = failed

-- bytes that a checker's file can hold, their machine, and the names behind it
pub record HasLoadedChecker (told : Option Bytes) (b : Before) (number : ℕ) (names : List Bytes) (word : Bytes) (size : ℕ) (machine : Machine) : Type 0 where
  pub bytes : Bytes
  pub stands : Stands told bytes
  pub sized : length bytes ≡ size
  pub fits : length bytes ≤ min file_limit b.left
  pub checker : IsChecker number word b.names names bytes machine

-- bytes that a C file can hold, their text, and the names behind it
pub record HasLoadedSource (told : Option Bytes) (b : Before) (number : ℕ) (names : List Bytes) (word : Bytes) (size : ℕ) (text : Text) : Type 0 where
  pub bytes : Bytes
  pub stands : Stands told bytes
  pub sized : length bytes ≡ size
  pub fits : length bytes ≤ min file_limit b.left
  pub source : IsSource number word b.names names bytes text
