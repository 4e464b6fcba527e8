-- Equal to the rule that is taken, by the first of the alternatives that apply.
-- THE FIRST OF THE ALTERNATIVES THAT APPLY by which who is asked takes a rule.
use Rattle.std.specs.Prelude.{ℕ, nat_eq, List, Bool, cond, not, ◌&&◌, ◌||◌, Option, None, Some}
use Rattle.std.specs.Option.{option_map}
use Rattle.state_tuples.specs.AppliedRules.Applied.{Applied}
use Rattle.flow_graph.specs.CPaths.Events.{Event}
use Rattle.metal_tree.specs.MetalMachines.Machine.{stop}
use Rattle.path_model.specs.CheckerModel.Choices.{Taken, first_some}
use Rattle.hole_matching.specs.Holes.{Setting}
use Rattle.state_tuples.specs.RuleChoices.Asked.{Asker, may_take, fits}

-- the rule begins and leads where it has to, and its binding fits
abbrev pub takes : Setting → Event → ℕ → Asker → Taken → Bool
takes g e state a t = may_take e state a t.rule && fits g e a t.rule t.binding

abbrev pub picked : Setting → Event → ℕ → Asker → Applied → Option Applied
picked g e state a x = cond (takes g e state a x.taken) (Some x) None

-- none in `stop`, and where it isn't asked
abbrev pub first_taken : Setting → Event → Bool → ℕ → Asker → List Applied → Option Applied
first_taken g e is_asked state a xs = cond (nat_eq state stop || not is_asked) None (first_some (picked g e state a) xs)

-- the rule that is taken, whichever number the alternative has
abbrev pub rule_taken : Option Applied → Option Taken
rule_taken o = option_map (λ x. x.taken) o
