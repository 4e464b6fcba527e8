use Rattle.std.proofs.Common.{◌≡◌, ◌≤◌, ◌-◌, length, drop}
use Rattle.metal_grammar.specs.Meaning.{number_among}
use Rattle.metal_written.proofs.MetalNames.Positions.{shifted}
use Rattle.metal_written.proofs.metal_names.holes.number_among.Given as goal

abbrev pub invariant-loop-index : goal.invariant-loop-index
invariant-loop-index l = record {
  rest : shifted l.index (number_among (drop l.index l.names) l.name) ≡ number_among l.names l.name;
  bound : l.index ≤ length l.names;
}

abbrev pub decreases-loop-index : goal.decreases-loop-index
decreases-loop-index l = length l.names - l.index
