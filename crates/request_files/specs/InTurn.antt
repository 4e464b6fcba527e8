-- THE FILES OF ONE KIND, read in turn, and what the reading of files comes to.
use Rattle.std.specs.Prelude.{◌≡◌, List, [], ◌++◌, length}
use Rattle.mx_io.specs.Bytes.{Bytes, Words}
use Rattle.typed_unit.specs.Texts.{Text}
use Rattle.metal_tree.specs.MetalMachines.Machine.{Machine}
use Rattle.request_files.specs.Faults.{Before}
use Rattle.request_files.specs.Meanings.{HaveMachines, HaveTexts}
use Rattle.request_files.specs.Reading.{AreSound, FailedAt, FaultyAt, at_first}
use Rattle.request_files.specs.Turns.{Turn, CheckerFile, SourceFile, numbered, turns}
use Rattle.request_files.specs.Views.{located_of}
use Rattle.request_files.specs.declared.unread.Unread.{Unread}
use Rattle.request_files.specs.declared.unread.Unread.TheVariants as unread

-- of the checkers with these words the first were read, have these machines, and leave this
pub record AreReadCheckers (Holds : Bytes → Bytes → Type 0) (b : Before) (words front : Words) (machines : List Machine) (end : Before) : Type 0 where
  pub contents : List Bytes
  pub count : length contents ≡ length front
  pub read : AreSound Holds b (numbered CheckerFile 0 words) contents end
  pub have : HaveMachines 0 b.names end.names front contents machines

-- the same of the C files
pub record AreReadSources (Holds : Bytes → Bytes → Type 0) (b : Before) (words front : Words) (texts : List Text) (end : Before) : Type 0 where
  pub contents : List Bytes
  pub count : length contents ≡ length front
  pub read : AreSound Holds b (numbered SourceFile 0 words) contents end
  pub have : HaveTexts 0 b.names end.names front contents texts

-- why not all files of these turns were read, and which reads failed
abbrev pub AnswersUnread : (Bytes → Bytes → Type 0) → Before → List Turn → Words → Words → Unread → Type 0
AnswersUnread Holds b turns old new (unread.NotRead position) = FailedAt Holds b turns old new position
AnswersUnread Holds b turns old new (unread.Faulty position l) = FaultyAt Holds b turns position (located_of l) × (new ≡ old)
AnswersUnread Holds b turns old new unread.NoMemory = new ≡ old

-- ALL FILES OF A REQUEST were read, none has a fault, these are their machines and texts, and these the names behind them
pub record AreReadFiles (Holds : Bytes → Bytes → Type 0) (checkers sources : Words) (names : List Bytes) (machines : List Machine) (texts : List Text) : Type 0 where
  pub checker_contents : List Bytes
  pub source_contents : List Bytes
  pub end : Before
  pub sound : AreSound Holds at_first (turns checkers sources) (checker_contents ++ source_contents) end
  pub between : List Bytes
  pub machines_are : HaveMachines 0 [] between checkers checker_contents machines
  pub texts_are : HaveTexts 0 between names sources source_contents texts
