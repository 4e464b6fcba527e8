-- The moves of a checker said of one object: from which object's state before it has its state after.
-- That moves can be said so is the law of locality, on which all work with single objects rests.
use Rattle.std.specs.Prelude.{◌≡◌, Option, Some, None, option_and_then}
use Rattle.path_theory.specs.Model.{Model}

-- by the first where there is one, and else the second
abbrev pub handed : {A B : Type 0} → Option A → (A → Option B) → Option B → Option B
handed None f b = b
handed (Some a) f b = f a

pub record Origins (M : Model) : Type 0 where
  -- the object before an event whose state this one has after its move, none where it is unknown then
  pub source : M.Event → M.Obj → Option M.Obj
  -- the caller's object whose state this one of the callee has at its entry
  pub into : M.Site → M.Obj → Option M.Obj
  -- the callee's object whose state at its end is handed back to this one of the caller, none where that is saved
  pub out : M.Site → M.Obj → Option M.Obj

-- the laws of locality: of moves, calls and returns
pub record IsLocal (M : Model) (L : Origins M) : Type 0 where
  pub moved : (e : M.Event) (m : M.Obj → Option M.State) (o : M.Obj) → M.moved e m o ≡ option_and_then m (L.source e o)
  pub entered : (s : M.Site) (m : M.Obj → Option M.State) (o : M.Obj) → M.entered s m o ≡ option_and_then m (L.into s o)
  pub returned : (s : M.Site) (c m : M.Obj → Option M.State) (o : M.Obj)
      → M.returned s c m o ≡ handed (L.out s o) c (m o)
