-- THE OBJECTS THAT RULES BIND: what their state variables have taken.
use Rattle.std.specs.Prelude.{ℕ, Bool, true, cond, List, [], flat_map}
use Rattle.std.specs.Option.{option_to_list}
use Rattle.state_tuples.specs.AppliedRules.Applied.{Applied}
use Rattle.state_tuples.specs.declared.applied_rules.sources.RuleSources.{RuleSources}
use Rattle.state_tuples.specs.declared.applied_rules.sources.RuleSources.TheVariants as sources
use Rattle.c_objects.specs.Objects.{Object}
use Rattle.path_model.specs.CheckerModel.Choices.{Binds, Gives, begins_globally, rule_variables}
use Rattle.path_model.specs.CheckerModel.Happenings.{Function, Happening}
use Rattle.hole_matching.specs.Alternatives.{bound_object}
use Rattle.hole_matching.specs.Holes.{Setting}
use Rattle.hole_matching.specs.Matching.{Binding}
use Rattle.metal_tree.specs.MetalMachines.Machine.{Source, Machine}

-- one or none
abbrev pub object_of : Setting → Binding → ℕ → List Object
object_of g b v = option_to_list (bound_object g v b)

abbrev pub objects_of : Setting → Binding → List ℕ → List Object
objects_of g b vs = flat_map (object_of g b) vs

abbrev pub bound_with : Setting → Applied → List Object
bound_with g x = objects_of g x.taken.binding (rule_variables x.taken.rule.source x.taken.rule.dest)

-- a rule is asked that begins in one of these states
abbrev pub begins_in : RuleSources → Source → Bool
begins_in sources.AnyState s = true
begins_in sources.GlobalStates s = begins_globally s

abbrev pub asked_with : RuleSources → Setting → Applied → List Object
asked_with w g x = cond (begins_in w x.taken.rule.source) (bound_with g x) []

abbrev pub bound_by : RuleSources → Setting → List Applied → List Object
bound_by w g xs = flat_map (asked_with w g) xs

-- AN ALTERNATIVE BINDS THE OBJECT, of a rule that is asked
abbrev pub BindsFrom : RuleSources → Machine → ℕ → Function → Happening → Object → Type 0
BindsFrom sources.AnyState = Binds
BindsFrom sources.GlobalStates = Gives
