-- The laws of checkers as statements, which contracts can name.
use Rattle.std.specs.Prelude.{◌≡◌, ◌↔◌, ℕ, true, false, Some}
use Rattle.c_objects.specs.Objects.{Object}
use Rattle.path_theory.specs.FrameEnds.{IgnoresKind, EndsQuietly}
use Rattle.path_theory.specs.Origins.{IsLocal}
use Rattle.path_model.specs.CheckerModel.Calls.{AreObjects, IsHandedBack, out}
use Rattle.path_model.specs.CheckerModel.Checkers.{model, origins}
use Rattle.path_model.specs.CheckerModel.Choices.{is_exit}
use Rattle.path_model.specs.CheckerModel.Happenings.{Site}
use Rattle.path_model.specs.CheckerModel.Reports.{Checker}

abbrev pub OneObjectAtATime : Type 0
OneObjectAtATime = (c : Checker) → IsLocal (model c) (origins c)

abbrev pub OtherEventsIgnoreFrames : Type 0
OtherEventsIgnoreFrames = (c : Checker) → IgnoresKind (model c) (λ h. is_exit h.event ≡ false)

abbrev pub EndsAreQuiet : Type 0
EndsAreQuiet = (c : Checker) → EndsQuietly (model c) (λ h. is_exit h.event ≡ true)

-- what is computed of a return is what is handed back
abbrev pub HandedBackObjectsBecomeTheirs : Type 0
HandedBackObjectsBecomeTheirs = (depth : ℕ) (s : Site) (c o : Object) → AreObjects depth s.actuals → (out depth s o ≡ Some c) ↔ IsHandedBack depth s c o
