-- What the program keeps of words, as lists of bytes.
use Rattle.std.specs.Prelude.{map, string_bytes}
use Rattle.std.specs.Option.{option_copied}
use Rattle.command_words.specs.declared.asked.Asked.{Asked}
use Rattle.command_words.specs.declared.given.Given.{Given}
use Rattle.command_words.specs.declared.given.Turn as turn_type
use Rattle.command_words.specs.declared.given.Turn.TheVariants as turns
use Rattle.command_words.specs.Words.{Request}
use Rattle.command_words.specs.Ways.Reading.{Chosen, chosen, Turn, Next, File, End, Wrong, asked}

abbrev pub request_of : Asked → Request
request_of a = asked a.depth (option_copied a.format) a.stats (map string_bytes a.files.now)

abbrev pub chosen_in : Given → Chosen
chosen_in g = chosen g.waits g.depth (option_copied g.format) g.stats

abbrev pub turn_in : turn_type.Turn → Turn
turn_in (turns.Next given) = Next (chosen_in given)
turn_in turns.File = File
turn_in turns.End = End
turn_in turns.Wrong = Wrong
