-- THE STATES OF OBJECTS that rules name: where a rule begins, and where it leads. A target may also make an object unknown, which is no
-- state.
use Rattle.std.specs.Prelude.{ℕ, List, [], ◌∷◌, ◌++◌, flat_map}
use Rattle.metal_tree.specs.MetalMachines.Machine.{Source, FromGlobal, FromObject, Target, ToGlobal, ToObject, ToUnknown, Dest, Always, ByTruth, Rule}
use Rattle.numbered_program.specs.NumberedTuples.Numbers.{number_by}
use Rattle.path_model.specs.CheckerModel.Choices.{State}
use Rattle.state_tuples.specs.Ways.Equality.{states_agree}

abbrev pub state_of_source : Source → List State
state_of_source (FromGlobal q) = []
state_of_source (FromObject v q) = (v, q) ∷ []

abbrev pub state_of_target : Target → List State
state_of_target (ToGlobal q) = []
state_of_target (ToObject v q) = (v, q) ∷ []
state_of_target (ToUnknown v) = []

abbrev pub states_of_dest : Dest → List State
states_of_dest (Always t) = state_of_target t
states_of_dest (ByTruth on_true on_false) = state_of_target on_true ++ state_of_target on_false

abbrev pub states_of_rule : Rule → List State
states_of_rule r = state_of_source r.source ++ states_of_dest r.dest

-- as often as they are named
abbrev pub states_of_rules : List Rule → List State
states_of_rules rules = flat_map states_of_rule rules

-- THE NUMBER OF A STATE among those that have one: 0 where it isn't one of them
abbrev pub number_of_state : List State → State → ℕ
number_of_state states x = number_by states_agree states x
