-- The rules of a list of events.
use Rattle.std.specs.Prelude.{ℕ, List, [], ◌∷◌}
use Rattle.state_tuples.specs.declared.applied_rules.rules.EventRules.{EventRules}
use Rattle.state_tuples.specs.AppliedRules.Events.{AreOfEvent}
use Rattle.path_model.specs.CheckerModel.Happenings.{Function, Happening}
use Rattle.metal_tree.specs.MetalMachines.Machine.{Machine}

-- THE RULES are those of these events of this function, one by one, where objects have this depth
abbrev pub AreOfEvents : Machine → ℕ → Function → List Happening → List EventRules → Type 0
AreOfEvents m depth f [] [] = Unit {0}
AreOfEvents m depth f [] (r ∷ rs) = ⊥
AreOfEvents m depth f (h ∷ hs) [] = ⊥
AreOfEvents m depth f (h ∷ hs) (r ∷ rs) = AreOfEvent m depth h f r × AreOfEvents m depth f hs rs
