-- The step of one tuple. Its global state and the state of its object are chosen by both states before.
use Rattle.std.specs.Prelude.{ℕ, Bool, Option}
use Rattle.type_rules.specs.Options.{if_there}
use Rattle.path_model.specs.CheckerModel.Choices.{State, chosen}
use Rattle.path_model.specs.CheckerModel.Happenings.{Function, Happening}
use Rattle.metal_tree.specs.MetalMachines.Machine.{Machine}
use Rattle.state_tuples.specs.declared.tuple.Tuple.{Tuple}

-- THE STATE BEHIND AN EVENT of a tuple's object; that of a tuple without one stays
abbrev pub state_behind : Machine → ℕ → Happening → Function → Bool → Tuple → Option State
state_behind m depth h f is_root t = if_there t.object t.state (λ o. chosen m depth h f is_root t.global o t.state)
