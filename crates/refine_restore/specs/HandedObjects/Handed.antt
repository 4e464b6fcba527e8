-- CALLS SEEN FROM THE OTHER END: which objects begin with a state, and to which ones it is handed.
use Rattle.std.specs.Prelude.{◌≡◌, ℕ, List, Some}
use Rattle.c_objects.specs.Objects.{Object}
use Rattle.flow_graph.specs.CPaths.Membership.{Among}
use Rattle.path_model.specs.CheckerModel.Calls.{into, out}
use Rattle.path_model.specs.CheckerModel.Distinct.{AreDistinct}
use Rattle.path_model.specs.CheckerModel.Happenings.{Site}

-- THE ENTERED of an object of the caller: exactly the objects of the callee that begin with its state, each once
pub record AreEntered (depth : ℕ) (s : Site) (o : Object) (entered : List Object) : Type 0 where
  pub real : (c : Object) → Among c entered → into depth s c ≡ Some o
  pub whole : (c : Object) → into depth s c ≡ Some o → Among c entered
  pub distinct : AreDistinct entered

-- THE HANDED of an object of the callee: exactly the objects of the caller that have its state behind the call, each once
pub record AreHanded (depth : ℕ) (s : Site) (c : Object) (handed : List Object) : Type 0 where
  pub real : (o : Object) → Among o handed → out depth s o ≡ Some c
  pub whole : (o : Object) → out depth s o ≡ Some c → Among o handed
  pub distinct : AreDistinct handed
