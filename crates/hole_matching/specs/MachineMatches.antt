-- The rules of a machine over subjects, and at the end of a function.
use Rattle.std.specs.Prelude.{◌≡◌, ℕ, List, map, Option, Some}
use Rattle.c_objects.specs.Facts.{Facts}
use Rattle.c_objects.specs.Objects.{Object}
use Rattle.type_rules.specs.Options.{◌>?◌}
use Rattle.metal_tree.specs.MetalMachines.Machine.{Item, Machine}
use Rattle.metal_tree.specs.MetalMachines.Rules.{alternative_numbered}
use Rattle.hole_matching.specs.Alternatives.{Matches, AppliesAtEnd, matched_alternative, bound_object}
use Rattle.hole_matching.specs.Holes.{Setting}
use Rattle.hole_matching.specs.Matching.{Binding}
use Rattle.c_tree.specs.PathSubjects.Subjects.{Subject}

-- what a machine is matched under in a function of this name, where objects have this depth
abbrev pub setting_of : Machine → Facts → ℕ → ℕ → Setting
setting_of m u depth function = record { facts = u; depth = depth; variables = m.variables; holes = map (λ h. h.of) m.holes; function = function }

-- AN ALTERNATIVE OF A RULE MATCHES a subject with a binding: that of the rule of this number, by its place.
abbrev pub RuleMatches : Machine → ℕ → ℕ → Facts → ℕ → ℕ → Subject → Binding → Type 0
RuleMatches m number k u depth function s b =
    (items : List Item) × (alternative_numbered m.rules number k ≡ Some items) × Matches (setting_of m u depth function) items s b

-- AN ALTERNATIVE OF A RULE APPLIES AT THE END of a function: that of the rule of this number, by its place.
abbrev pub RuleAppliesAtEnd : Machine → ℕ → ℕ → Facts → ℕ → ℕ → Type 0
RuleAppliesAtEnd m number k u depth function =
    (items : List Item) × (alternative_numbered m.rules number k ≡ Some items) × AppliesAtEnd (setting_of m u depth function) items

-- the binding with which it matches
abbrev pub matched_rule : Machine → ℕ → ℕ → Facts → ℕ → ℕ → Subject → Option Binding
matched_rule m number k u depth function s = alternative_numbered m.rules number k >? λ items. matched_alternative (setting_of m u depth function) items s

-- the object that it binds its variable to
abbrev pub object_bound : Machine → ℕ → ℕ → Facts → ℕ → ℕ → Subject → ℕ → Option Object
object_bound m number k u depth function s variable = matched_rule m number k u depth function s >? bound_object (setting_of m u depth function) variable
