use Rattle.std.proofs.Common.{◌≡◌, true, take, map}
use Rattle.metal_grammar.specs.Meaning.{states_among}
use Rattle.metal_written.specs.Written.{state_view}
use Rattle.metal_tree.specs.Parts.{state_names}
use Rattle.metal_numbers.specs.Small.{are_few}
use Rattle.metal_numbers.proofs.numbering.states_of.Given as goal

abbrev pub invariant-loop-variable : goal.invariant-loop-variable
invariant-loop-variable l = record {
  states : map state_names l.states.items ≡ map (states_among l.names (map state_view l.mentioned)) (take l.variable-index l.variables);
  few : are_few l.states.items ≡ true;
}
