use Rattle.std.proofs.Common.{◌≡◌, ◌≤◌, ◌+◌, ◌-◌, length, drop}
use Rattle.metal_grammar.specs.Words.{name_spelled}
use Rattle.metal_written.proofs.texts.name_spelled.Given as goal

abbrev pub invariant-searching : goal.invariant-searching
invariant-searching l = record {
  search : l.number + name_spelled (drop l.number l.names) l.text ≡ name_spelled l.names l.text;
  bound : l.number ≤ length l.names;
}

abbrev pub decreases-searching : goal.decreases-searching
decreases-searching l = length l.names - l.number
