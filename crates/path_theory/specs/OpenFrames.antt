-- A path as the run of its last frame on the frames below, each of which stands at a call that hasn't returned.
-- It says what such frames and such a run do to the state, so that a path can be split into them.
use Rattle.std.specs.Prelude.{Bool, true, false, None}
use Rattle.path_theory.specs.Model.{Model}
use Rattle.path_theory.specs.Supergraph.{Supergraph}
use Rattle.path_theory.specs.Callers.{Callers, NoCaller, Waiting}
use Rattle.path_theory.specs.Paths.{Now, after_call}
use Rattle.path_theory.specs.Runs.{Run, run_global, run_map}

module _ (M : Model) (K : Supergraph M) where
  -- the frames up to the entry of the last one
  pub data OpenFrames : M.Fn → Bool → Callers M K → Type 0 where
    RootFrame : {f : M.Fn} → K.IsRoot f → OpenFrames f true NoCaller
    CalledFrame : {f : M.Fn} {k : Bool} {p q : K.Place} {b : Callers M K} → OpenFrames f k b → Run M K f p
        → (s : M.Site) → (h : M.Fn) → K.Calls f p s h q → OpenFrames h false (Waiting f k s q b)

  -- the state in which a frame goes on, from that at its entry
  abbrev pub now_after : {f : M.Fn} {p : K.Place} {b : Callers M K} → Run M K f p → Bool → Now M K b → Now M K b
  now_after R k n = record { global = run_global M K R k n.global; here = run_map M K R k n.global n.here; below = n.below }

  -- the state at the entry of the last frame
  abbrev pub at_entry : {f : M.Fn} {k : Bool} {b : Callers M K} → OpenFrames f k b → Now M K b
  at_entry (RootFrame r) = record { global = M.start; here = λ o. None; below = tt }
  at_entry (CalledFrame {f = f} {k = k} {q = q} O R s h t) = after_call M K f k q s (now_after R k (at_entry O))
