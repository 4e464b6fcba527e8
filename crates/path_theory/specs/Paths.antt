-- Paths as a proof goes over them: by their frames, with the state that a checker has at their ends. They report what flat paths do.
-- The call sites that wait stand in the type of a path, so that a return can only come to the site that made the call.
-- The fold keeps one whole map a frame.
use Rattle.std.specs.Prelude.{Bool, true, false, None}
use Rattle.path_theory.specs.Model.{Map, Model, stepped}
use Rattle.path_theory.specs.Supergraph.{Supergraph}
use Rattle.path_theory.specs.Callers.{Callers, NoCaller, Waiting}

module _ (M : Model) (K : Supergraph M) where
  -- a path, by the function, the kind of frame and the place of its last frame, and the frames below
  pub data Path : M.Fn → Bool → K.Place → Callers M K → Type 0 where
    Begin : {f : M.Fn} → K.IsRoot f → Path f true (K.entry f) NoCaller
    Skip : {f : M.Fn} {k : Bool} {p q : K.Place} {b : Callers M K} → Path f k p b → K.Skips f p q → Path f k q b
    Go : {f : M.Fn} {k : Bool} {p q : K.Place} {b : Callers M K} → Path f k p b → (e : M.Event) → K.Goes f p e q
        → Path f k q b
    Call : {f : M.Fn} {k : Bool} {p q : K.Place} {b : Callers M K} → Path f k p b → (s : M.Site) → (h : M.Fn)
        → K.Calls f p s h q → Path h false (K.entry h) (Waiting f k s q b)
    Return : {f h : M.Fn} {k l : Bool} {q r : K.Place} {b : Callers M K} (s : M.Site) → Path h l r (Waiting f k s q b)
        → K.Ends h r → Path f k q b

  -- a map for each frame below
  abbrev pub Maps : Callers M K → Type 0
  Maps NoCaller = Unit {0}
  Maps (Waiting f k s q b) = Map M × Maps b

  -- the global state, the map of the last frame, and those of the frames below
  pub record Now (b : Callers M K) : Type 0 where
    pub global : M.Global
    pub here : Map M
    pub below : Maps b

  abbrev pub after_go : {b : Callers M K} → M.Event → M.Fn → Bool → Now b → Now b
  after_go e f k n = record { global = M.next_global e f k n.global; here = stepped M e f k n.global n.here; below = n.below }

  abbrev pub after_call : {b : Callers M K} (f : M.Fn) (k : Bool) (q : K.Place) (s : M.Site) → Now b
      → Now (Waiting f k s q b)
  after_call f k q s n = record { global = n.global; here = M.entered s n.here; below = (n.here, n.below) }

  abbrev pub after_return : {b : Callers M K} {f : M.Fn} {k : Bool} {q : K.Place} (s : M.Site) → Now (Waiting f k s q b)
      → Now b
  after_return s n = record { global = n.global; here = M.returned s n.here n.below.0; below = n.below.1 }

  -- the state after a path
  abbrev pub after : {f : M.Fn} {k : Bool} {p : K.Place} {b : Callers M K} → Path f k p b → Now b
  after (Begin r) = record { global = M.start; here = λ o. None; below = tt }
  after (Skip P t) = after P
  after (Go {f = f} {k = k} P e t) = after_go e f k (after P)
  after (Call {f = f} {k = k} {q = q} P s h t) = after_call f k q s (after P)
  after (Return s P t) = after_return s (after P)

  -- some path takes the report at its last event
  pub data Reported (r : M.Report) : Type 0 where
    ReportOf : {f : M.Fn} {k : Bool} {p q : K.Place} {b : Callers M K} (P : Path f k p b) (e : M.Event) → K.Goes f p e q
        → (o : M.Obj) → M.Fires e f k (after P).global o (M.moved e (after P).here o) r → Reported r
    ReportOfGlobal : {f : M.Fn} {k : Bool} {p q : K.Place} {b : Callers M K} (P : Path f k p b) (e : M.Event)
        → K.Goes f p e q → M.FiresGlobal e f k (after P).global r → Reported r
