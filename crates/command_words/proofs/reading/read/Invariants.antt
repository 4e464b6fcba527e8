-- What is read behind the settings so far is what is read of all words. The fields of `given` stand in their order: what it waits for, the depth,
-- the format, and whether statistics are asked for.
use Rattle.std.proofs.Common.{◌≡◌, ◌≤◌, ◌-◌, length, map, drop, string_bytes}
use Rattle.command_words.specs.Ways.Reading.{chosen, reading, nothing_chosen}
use Rattle.std.specs.Option.{option_copied}
use Rattle.command_words.proofs.reading.read.Given as goal

abbrev pub invariant-loop-index : goal.invariant-loop-index
invariant-loop-index l = record {
  rest : reading (chosen l.given.0 l.given.1.0 (option_copied l.given.1.1.0) l.given.1.1.1.0) (map string_bytes (drop l.index l.words)) ≡ reading nothing_chosen (map string_bytes l.words);
  bound : l.index ≤ length l.words;
}

abbrev pub decreases-loop-index : goal.decreases-loop-index
decreases-loop-index l = length l.words - l.index
