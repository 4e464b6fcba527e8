-- those so far, and those among the words that are left, are all
use Rattle.std.proofs.Common.{◌≡◌, ◌++◌, drop, filter, map, string_bytes}
use Rattle.command_words.specs.Words.{is_checker_word}
use Rattle.request_files.specs.Views.{words_of}
use Rattle.command.proofs.kinds.checkers_among.Given as goal

abbrev pub invariant-loop-file : goal.invariant-loop-file
invariant-loop-file l = words_of l.checkers.items ++ filter is_checker_word (map string_bytes (drop l.file-index l.files)) ≡ filter is_checker_word (map string_bytes l.files)
