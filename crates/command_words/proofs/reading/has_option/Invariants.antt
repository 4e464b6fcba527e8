use Rattle.std.proofs.Common.{◌≡◌, ◌≤◌, ◌-◌, length, map, drop, string_bytes}
use Rattle.std.specs.List.{list_any}
use Rattle.command_words.specs.Words.{is_option}
use Rattle.command_words.proofs.reading.has_option.Given as goal

abbrev pub invariant-loop-index : goal.invariant-loop-index
invariant-loop-index l = record {
  rest : list_any is_option (map string_bytes (drop l.index l.files)) ≡ list_any is_option (map string_bytes l.files);
  bound : l.index ≤ length l.files;
}

abbrev pub decreases-loop-index : goal.decreases-loop-index
decreases-loop-index l = length l.files - l.index
