-- The first of a list that gives something.
use Rattle.std.specs.Prelude.{◌≡◌, ℕ, List, take, slice_get, map, Option, None, IsSome}
use Rattle.flow_graph.specs.CPaths.Events.{Event}
use Rattle.type_rules.specs.Options.{◌>?◌}
use Rattle.path_model.specs.CheckerModel.Choices.{first_some}
use Rattle.hole_matching.specs.Holes.{Setting}
use Rattle.metal_tree.specs.Views.{items_view, rule_view}
use Rattle.state_tuples.specs.RuleChoices.Asked.{Asker, by_items}
use Rattle.state_tuples.specs.declared.rule_choices.fired.Fired.{Fired}

-- the one with this number gives something, and none before it does
pub record IsFirst {A B : Type 0} (f : A → Option B) (xs : List A) (number : ℕ) : Type 0 where
  pub before : first_some f (take number xs) ≡ None
  pub there : IsSome (slice_get xs number >? f)

-- a rule is taken by the first of its alternatives by which it can be
abbrev pub IsByFirst : Setting → Event → Asker → Fired → Type 0
IsByFirst g e a f = IsFirst (by_items g e a (rule_view f.rule.now)) (map items_view f.rule.now.pattern.alternatives.now) f.alternative
