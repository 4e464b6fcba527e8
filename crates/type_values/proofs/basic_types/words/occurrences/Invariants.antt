use Rattle.std.proofs.Common.{◌≡◌, ◌+◌, ◌≤◌, drop}
use Rattle.c_grammar.specs.Specifiers.{occurrences}
use Rattle.type_values.proofs.basic_types.words.occurrences.Given as goal

abbrev pub invariant-loop-found : goal.invariant-loop-found
invariant-loop-found l = record {
  counted : l.count + occurrences l.word (drop l.found-index l.words) ≡ occurrences l.word l.words;
  bound : l.count ≤ l.found-index;
}
