-- WHAT APPLIES AT AN EVENT: each alternative of each rule that does, with its number and its binding, in the order of the rules and then of
-- their alternatives.
use Rattle.std.specs.Prelude.{ℕ, List, flat_map}
use Rattle.std.specs.List.{enumerate_from}
use Rattle.std.specs.Option.{option_map, option_to_list}
use Rattle.flow_graph.specs.CPaths.Events.{Event}
use Rattle.path_model.specs.CheckerModel.Choices.{Taken, applied}
use Rattle.hole_matching.specs.Holes.{Setting}
use Rattle.hole_matching.specs.Matching.{Binding}
use Rattle.metal_tree.specs.MetalMachines.Machine.{Item, Rule}

-- the number of an alternative in its rule, from 0, and the rule as it is taken by it
pub record Applied : Type 0 where
  pub number : ℕ
  pub taken : Taken

abbrev pub with_number : ℕ → Taken → Applied
with_number n t = record { number = n; taken = t }

abbrev pub taken_with : Rule → Binding → Taken
taken_with r b = record { rule = r; binding = b }

-- one or none
abbrev pub applied_alternative : Setting → Event → Rule → ℕ × List Item → List Applied
applied_alternative g e r x = option_to_list (option_map (λ b. with_number x.0 (taken_with r b)) (applied g e r.dest x.1))

abbrev pub applied_rule : Setting → Event → Rule → List Applied
applied_rule g e r = flat_map (applied_alternative g e r) (enumerate_from 0 r.alternatives)

abbrev pub applied_at : Setting → Event → List Rule → List Applied
applied_at g e rules = flat_map (applied_rule g e) rules
