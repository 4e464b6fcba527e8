-- OBJECTS THAT ARE LINKED: one of them takes its state from the other, at an event or at an end of a call.
use Rattle.std.specs.Prelude.{◌≡◌, ◌⊎◌, ℕ, Some}
use Rattle.c_objects.specs.Facts.{Facts}
use Rattle.c_objects.specs.Objects.{Object}
use Rattle.flow_graph.specs.CPaths.Events.{Event}
use Rattle.path_model.specs.CheckerModel.Calls.{into, out}
use Rattle.path_model.specs.CheckerModel.Happenings.{Site}
use Rattle.path_model.specs.CheckerModel.Moves.{move_of, source}

-- at an event, either way
abbrev pub AreLinkedAt : Facts → ℕ → Object → Event → Object → Type 0
AreLinkedAt u depth o e b = (source depth (move_of u depth e) b ≡ Some o) ⊎ (source depth (move_of u depth e) o ≡ Some b)

-- an object of the caller and one of the callee, over a call
abbrev pub AreLinkedOver : ℕ → Site → Object → Object → Type 0
AreLinkedOver depth s o c = (into depth s c ≡ Some o) ⊎ (out depth s o ≡ Some c)
