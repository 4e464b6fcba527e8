-- The targets of an object: those whose source it is.
use Rattle.std.specs.Prelude.{◌≡◌, ◌++◌, ℕ, List, [], ◌∷◌, Bool, cond, not, ◌&&◌, is_none, Option, None, Some}
use Rattle.std.specs.Option.{option_to_list}
use Rattle.c_objects.specs.Objects.{Object, IsObject}
use Rattle.c_objects.specs.Replaced.{replaced}
use Rattle.flow_graph.specs.CPaths.Membership.{Among}
use Rattle.type_rules.specs.Options.{◌>?◌}
use Rattle.path_model.specs.CheckerModel.Distinct.{AreDistinct}
use Rattle.path_model.specs.CheckerModel.Moves.{Move, under, indexes, source}

-- THE TARGETS of an object under a move: exactly the objects with it for their source, each once
pub record AreTargets (depth : ℕ) (m : Option Move) (o : Object) (targets : List Object) : Type 0 where
  pub objects : (q : Object) → Among q targets → IsObject depth q
  pub real : (q : Object) → Among q targets → source depth m q ≡ Some o
  pub whole : (q : Object) → source depth m q ≡ Some o → Among q targets
  pub distinct : AreDistinct targets

-- the object keeps its own state
abbrev pub stays : Move → Object → Bool
stays m o = is_none (under m.to o) && not (indexes m.to o.selectors)

-- an object to which a state is copied, unless an index of it changes
abbrev pub if_copied : Move → Object → Option Object
if_copied m q = under m.to q >? λ r. cond (indexes m.to r) None (Some q)

-- the object to which the state of this one is copied
abbrev pub copy_of : ℕ → Move → Object → Option Object
copy_of depth m o = m.from >? λ a. replaced depth m.to a o >? if_copied m

abbrev pub targets : ℕ → Option Move → Object → List Object
targets depth None o = o ∷ []
targets depth (Some m) o = cond (stays m o) (o ∷ []) [] ++ option_to_list (copy_of depth m o)
