use Rattle.std.proofs.Common.{◌≡◌, take, map}
use Rattle.metal_grammar.specs.Meaning.{globals_among}
use Rattle.metal_written.specs.Written.{state_view}
use Rattle.metal_numbers.proofs.numbering.globals_among.Given as goal

abbrev pub invariant-loop-state : goal.invariant-loop-state
invariant-loop-state l = l.found.items ≡ globals_among l.names (map state_view (take l.state-index l.states))
