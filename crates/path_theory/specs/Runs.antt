-- The run of one frame, in which a call that has returned is one step: a same-level path, as the literature says.
-- It says what a run does to the global state and to a map, and from which object at the frame's entry an object has
-- its state.
use Rattle.std.specs.Prelude.{Bool, false, Option, Some, option_and_then}
use Rattle.path_theory.specs.Model.{Model, Map, stepped}
use Rattle.path_theory.specs.Supergraph.{Supergraph}
use Rattle.path_theory.specs.Trails.{Start, More}
use Rattle.path_theory.specs.Walks.{AtEvent, AtCall, Labels}
use Rattle.path_theory.specs.Origins.{Origins, handed}

module _ (M : Model) (K : Supergraph M) where
  pub data Run : M.Fn → K.Place → Type 0 where
    Here : {f : M.Fn} → Run f (K.entry f)
    Skipped : {f : M.Fn} {p q : K.Place} → Run f p → K.Skips f p q → Run f q
    Gone : {f : M.Fn} {p q : K.Place} → Run f p → (e : M.Event) → K.Goes f p e q → Run f q
    Closed : {f h : M.Fn} {p q r : K.Place} → Run f p → (s : M.Site) → K.Calls f p s h q → Run h r → K.Ends h r
        → Run f q

  -- the global state after it, by that before it
  abbrev pub run_global : {f : M.Fn} {p : K.Place} → Run f p → Bool → M.Global → M.Global
  run_global Here k g = g
  run_global (Skipped R t) k g = run_global R k g
  run_global (Gone {f = f} R e t) k g = M.next_global e f k (run_global R k g)
  run_global (Closed R s t C e) k g = run_global C false (run_global R k g)

  -- the map after it, by the global state and the map before it
  abbrev pub run_map : {f : M.Fn} {p : K.Place} → Run f p → Bool → M.Global → Map M → Map M
  run_map Here k g m = m
  run_map (Skipped R t) k g m = run_map R k g m
  run_map (Gone {f = f} R e t) k g m = stepped M e f k (run_global R k g) (run_map R k g m)
  run_map (Closed R s t C e) k g m = M.returned s (run_map C false (run_global R k g) (M.entered s (run_map R k g m))) (run_map R k g m)

  -- the object at the frame's entry from which an object has its state, none where it was made unknown in between by a
  -- move or a call; a choice cuts nothing
  abbrev pub origin : Origins M → {f : M.Fn} {p : K.Place} → Run f p → M.Obj → Option M.Obj
  origin L Here o = Some o
  origin L (Skipped R t) o = origin L R o
  origin L (Gone R e t) o = option_and_then (origin L R) (L.source e o)
  origin L (Closed R s t C e) o = handed (L.out s o) (λ c. option_and_then (origin L R) (option_and_then (L.into s) (origin L C c))) (origin L R o)

  -- its trace
  abbrev pub labels_of : {f : M.Fn} {p : K.Place} → Run f p → Labels M
  labels_of Here = Start
  labels_of (Skipped R t) = labels_of R
  labels_of (Gone R e t) = More (labels_of R) (AtEvent e)
  labels_of (Closed {h = h} R s t C e) = More (labels_of R) (AtCall s h)
