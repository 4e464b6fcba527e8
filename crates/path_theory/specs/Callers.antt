-- The frames below the last one of a path.
use Rattle.std.specs.Prelude.{Bool}
use Rattle.path_theory.specs.Model.{Model}
use Rattle.path_theory.specs.Supergraph.{Supergraph}

module _ (M : Model) (K : Supergraph M) where
  -- of which function and kind each is, at which call site it waits, and where it goes on
  pub data Callers : Type 0 where
    NoCaller : Callers
    Waiting : M.Fn → Bool → M.Site → K.Place → Callers → Callers
