-- The command that positions of words stand for.
use Rattle.std.specs.Prelude.{◌≡◌, ◌-◌, ℕ, false, List, [], get_or, length, map, Option, None, Some}
use Rattle.std.specs.List.{range_with_len}
use Rattle.command_words.specs.Generation.{IsGeneration}
use Rattle.mx_io.specs.Bytes.{Words}
use Rattle.command.specs.Commands.{Command, IsCommand}
use Rattle.command.specs.declared.request.Request.{Request}

-- the words at these positions
abbrev pub words_at : Words → List ℕ → Words
words_at words positions = map (λ i. get_or words i []) positions

abbrev pub command_at : Words → Request → Command
command_at words r = record { depth = r.depth; stats = r.stats; place = r.format; files = words_at words r.files.items }

-- these are the positions of the last words, in order
abbrev pub AreLastPositions : Words → List ℕ → Type 0
AreLastPositions words positions = positions ≡ range_with_len (length words - length positions) (length positions)

-- the words ask for what a request holds: for a generation, if it has a number to generate, without statistics and files, and else for a command, of
-- which the last words are the files
abbrev pub AskFor : Words → Words → Request → Option ℕ → Type 0
AskFor words called r None = IsCommand words called (command_at words r) × AreLastPositions words r.files.items
AskFor words called r (Some count) = IsGeneration words count × (r.stats ≡ false) × (r.files.items ≡ [])
