use Rattle.std.proofs.Common.{◌≡◌, map, take}
use Rattle.metal_tree.specs.Views.{rule_view}
use Rattle.numbered_program.specs.NumberedTuples.ObjectStates.{states_of_rules}
use Rattle.numbered_program.proofs.numbered_tuples.object_states.named_states.Given as goal

-- the states that the rules name that were passed
abbrev pub invariant-loop-rule : goal.invariant-loop-rule
invariant-loop-rule l = l.named.items ≡ states_of_rules (map rule_view (take l.rule-index l.rules))
