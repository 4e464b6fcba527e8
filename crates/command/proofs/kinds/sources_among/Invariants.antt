-- those so far, and those among the words that are left, are all
use Rattle.std.proofs.Common.{◌≡◌, ◌++◌, drop, filter, map, string_bytes}
use Rattle.command_words.specs.Words.{is_source_word}
use Rattle.request_files.specs.Views.{words_of}
use Rattle.command.proofs.kinds.sources_among.Given as goal

abbrev pub invariant-loop-file : goal.invariant-loop-file
invariant-loop-file l = words_of l.sources.items ++ filter is_source_word (map string_bytes (drop l.file-index l.files)) ≡ filter is_source_word (map string_bytes l.files)
