-- What calls hand back.
use Rattle.std.specs.Prelude.{◌≡◌, ℕ}
use Rattle.c_objects.specs.Objects.{Object}
use Rattle.path_model.specs.CheckerModel.Calls.{out}
use Rattle.path_model.specs.CheckerModel.Happenings.{Site}

-- behind both calls each object of the caller has its state from the same one of the callee, or is saved
abbrev pub HandBackAlike : ℕ → Site → Site → Type 0
HandBackAlike depth s r = (o : Object) → out depth s o ≡ out depth r o
