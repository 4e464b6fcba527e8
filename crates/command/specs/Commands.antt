-- THE COMMAND that words give, where reporters are handed in.
use Rattle.std.specs.Prelude.{◌≡◌, ℕ, Bool, false, List, filter, Option, None, Some}
use Rattle.std.specs.List.{position}
use Rattle.std.specs.Str.{bytes_eq}
use Rattle.command_words.specs.Generation.{IsGeneration}
use Rattle.command_words.specs.Words.{Request, IsRequest, is_checker_word, is_source_word}
use Rattle.request_files.specs.Turns.{Turn, turns}
use Rattle.mx_io.specs.Bytes.{Bytes, Words}

-- what is to be done: objects with at most so many steps, the reporter at this place or none, whether statistics are asked for, and these files
pub record Command : Type 0 where
  pub depth : ℕ
  pub stats : Bool
  pub place : Option ℕ
  pub files : Words

-- the place of the first reporter of the name that is asked for; there is none where no name is
abbrev pub IsPlace : Words → Option Bytes → Option ℕ → Type 0
IsPlace called None place = place ≡ None
IsPlace called (Some name) place = (k : ℕ) × (place ≡ Some k) × (position (bytes_eq name) called ≡ Some k)

-- the words stand for a request whose format is the name of a reporter
pub record IsCommand (words called : Words) (command : Command) : Type 0 where
  pub request : Request
  pub is_request : IsRequest words request
  pub stats : command.stats ≡ request.stats
  pub place : IsPlace called request.format command.place
  pub depth : command.depth ≡ request.depth
  pub files : command.files ≡ request.files

-- the words give no command
abbrev pub GiveNoCommand : Words → Words → Type 0
GiveNoCommand words called = (command : Command) → IsCommand words called command → ⊥

-- the words give no command, and ask for no generation either
pub record GiveNone (words called : Words) : Type 0 where
  pub no_command : GiveNoCommand words called
  pub no_generation : (count : ℕ) → IsGeneration words count → ⊥

-- the words ask for no statistics
abbrev pub AskForNone : Words → Words → Type 0
AskForNone words called = (command : Command) → IsCommand words called command → command.stats ≡ false

-- the reporter at this place isn't the one that the words choose
abbrev pub IsOther : Words → Words → ℕ → Type 0
IsOther words called k = (command : Command) → IsCommand words called command → command.place ≡ Some k → ⊥

-- the files of each kind, in the order of the words
abbrev pub checkers_of : Command → Words
checkers_of command = filter is_checker_word command.files

abbrev pub sources_of : Command → Words
sources_of command = filter is_source_word command.files

-- the order in which they are read
abbrev pub turns_of : Command → List Turn
turns_of command = turns (checkers_of command) (sources_of command)
