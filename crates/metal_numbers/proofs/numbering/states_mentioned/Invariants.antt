use Rattle.std.proofs.Common.{◌≡◌, take, map}
use Rattle.metal_grammar.specs.Meaning.{states_mentioned}
use Rattle.metal_written.specs.Placed.{placed_views}
use Rattle.metal_written.specs.Written.{state_view}
use Rattle.metal_numbers.proofs.numbering.states_mentioned.Given as goal

abbrev pub invariant-loop-rule : goal.invariant-loop-rule
invariant-loop-rule l = map state_view l.states.items ≡ states_mentioned (placed_views (take l.rule-index l.rules))
