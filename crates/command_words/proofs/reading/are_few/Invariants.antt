use Rattle.std.proofs.Common.{◌≡◌, ◌+◌, ◌≤◌, ◌-◌, length, map, drop, string_bytes}
use Rattle.command_words.specs.Words.{counted, is_checker_word, is_source_word}
use Rattle.command_words.proofs.reading.are_few.Given as goal

abbrev pub invariant-loop-index : goal.invariant-loop-index
invariant-loop-index l = record {
  checkers : counted is_checker_word (map string_bytes (drop l.index l.files)) + l.checkers ≡ counted is_checker_word (map string_bytes l.files);
  sources : counted is_source_word (map string_bytes (drop l.index l.files)) + l.sources ≡ counted is_source_word (map string_bytes l.files);
  few_checkers : l.checkers ≤ l.index;
  few_sources : l.sources ≤ l.index;
  bound : l.index ≤ length l.files;
}

abbrev pub decreases-loop-index : goal.decreases-loop-index
decreases-loop-index l = length l.files - l.index
