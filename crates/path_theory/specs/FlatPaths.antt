-- Which flat lists of actions are paths of a program, and the reports that its paths take.
-- `InErrors` is the meaning of a run of the checker: some path from some root takes the report at its last event.
use Rattle.std.specs.Prelude.{Bool, true, false}
use Rattle.path_theory.specs.Model.{Model}
use Rattle.path_theory.specs.Supergraph.{Supergraph}
use Rattle.path_theory.specs.Trails.{Start, More}
use Rattle.path_theory.specs.Callers.{Callers, NoCaller, Waiting}
use Rattle.path_theory.specs.Actions.{Did, Called, Returned, Actions, TakenAt, fold}

module _ (M : Model) (K : Supergraph M) where
  -- The list leads from the root to this place, in a frame of this function and kind, above these frames. A call leaves a frame that waits at its
  -- site; a return goes on where the last frame waits, so it is the return of that frame's own call.
  pub data LeadsTo : M.Fn → Actions M → M.Fn → Bool → K.Place → Callers M K → Type 0 where
    Begins : {root : M.Fn} → K.IsRoot root → LeadsTo root Start root true (K.entry root) NoCaller
    Skips : {root : M.Fn} {l : Actions M} {f : M.Fn} {k : Bool} {p q : K.Place} {b : Callers M K} → LeadsTo root l f k p b → K.Skips f p q → LeadsTo root l f k q b
    Does : {root : M.Fn} {l : Actions M} {f : M.Fn} {k : Bool} {p q : K.Place} {b : Callers M K} → LeadsTo root l f k p b → (e : M.Event) → K.Goes f p e q
        → LeadsTo root (More l (Did e)) f k q b
    Calls : {root : M.Fn} {l : Actions M} {f : M.Fn} {k : Bool} {p q : K.Place} {b : Callers M K} → LeadsTo root l f k p b → (s : M.Site) (h : M.Fn)
        → K.Calls f p s h q → LeadsTo root (More l (Called s h)) h false (K.entry h) (Waiting f k s q b)
    Returns : {root : M.Fn} {l : Actions M} {f h : M.Fn} {k j : Bool} {q r : K.Place} {b : Callers M K} (s : M.Site) → LeadsTo root l h j r (Waiting f k s q b)
        → K.Ends h r → LeadsTo root (More l (Returned s)) f k q b

  -- THE LIST IS A PATH from this root
  pub record IsPath (root : M.Fn) (l : Actions M) : Type 0 where
    pub fn : M.Fn
    pub kind : Bool
    pub place : K.Place
    pub below : Callers M K
    pub leads : LeadsTo root l fn kind place below

  -- SOME PATH TAKES THE REPORT at its last event
  pub record InErrors (r : M.Report) : Type 0 where
    pub root : M.Fn
    pub actions : Actions M
    pub event : M.Event
    pub path : IsPath root (More actions (Did event))
    pub taken : TakenAt M event (fold M root actions) r
