use Rattle.std.proofs.Common.{◌≡◌, take, map}
use Rattle.metal_grammar.specs.Meaning.{states_among}
use Rattle.metal_written.specs.Written.{state_view}
use Rattle.metal_numbers.proofs.numbering.states_among.Given as goal

abbrev pub invariant-loop-state : goal.invariant-loop-state
invariant-loop-state l = l.found.items ≡ states_among l.names (map state_view (take l.state-index l.states)) l.variable
