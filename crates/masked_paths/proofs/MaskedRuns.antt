-- Runs and open frames under a mask: those of the program, with functions at their events and call sites, and no others.
use Rattle.std.proofs.Common.{◌≡◌, suc, ◌+◌, Bool, false, refl, ◌∙◌, ap, ap₂}
use Rattle.path_theory.specs.Model.{Model}
use Rattle.path_theory.specs.Supergraph.{Supergraph}
use Rattle.path_theory.specs.Callers.{Callers, NoCaller, Waiting}
use Rattle.path_theory.specs.Origins.{Origins}
use Rattle.path_theory.specs.Runs.{Run, Here, Skipped, Gone, Closed, run_global}
use Rattle.path_theory.specs.OpenFrames.{OpenFrames, RootFrame, CalledFrame}
use Rattle.path_theory.specs.PathLengths.{run_length, frames_length}
use Rattle.masked_paths.specs.Masked.{Mask, masked, GoesAt, CallsAt, masked_supergraph}

module _ (M : Model) (L : Origins M) (a : Mask M) (K : Supergraph M) where
  abbrev N : Model
  N = masked M L a

  abbrev J : Supergraph N
  J = masked_supergraph M L a K

  abbrev pub run_in : {f : M.Fn} {p : K.Place} → Run M K f p → Run N J f p
  run_in Here = Here
  run_in (Skipped R t) = Skipped (run_in R) t
  run_in (Gone {f = f} R e t) = Gone (run_in R) (record { fn = f; event = e }) (GoesAt t)
  run_in (Closed {f = f} {h = h} R s t C e) = Closed (run_in R) (record { caller = f; site = s; callee = h }) (CallsAt t) (run_in C) e

  -- the frames below that of a function
  abbrev pub callers_in : M.Fn → Callers M K → Callers N J
  callers_in h NoCaller = NoCaller
  callers_in h (Waiting f k s q b) = Waiting f k (record { caller = f; site = s; callee = h }) q (callers_in f b)

  abbrev pub frames_in : {f : M.Fn} {k : Bool} {b : Callers M K} → OpenFrames M K f k b → OpenFrames N J f k (callers_in f b)
  frames_in (RootFrame r) = RootFrame r
  frames_in (CalledFrame {f = f} O R s h t) = CalledFrame (frames_in O) (run_in R) (record { caller = f; site = s; callee = h }) h (CallsAt t)

  -- each run under the mask is one of these
  pub run_out : {f : M.Fn} {p : K.Place} → Run N J f p → Run M K f p
  run_out Here = Here
  run_out (Skipped R t) = Skipped (run_out R) t
  run_out (Gone R e (GoesAt {e = d} t)) = Gone (run_out R) d t
  run_out (Closed R s (CallsAt {s = d} t) C e) = Closed (run_out R) d t (run_out C) e

  pub in_out : {f : M.Fn} {p : K.Place} (R : Run N J f p) → run_in (run_out R) ≡ R
  unfolding run_out
  in_out Here = refl
  in_out (Skipped R t) = ap (λ Q. Skipped Q t) (in_out R)
  in_out (Gone R e (GoesAt {e = d} t)) = ap (λ Q. Gone Q _ (GoesAt t)) (in_out R)
  in_out (Closed R s (CallsAt {s = d} t) C e) = ap (λ Q. Closed Q _ (CallsAt t) (run_in (run_out C)) e) (in_out R) ∙ ap (λ Q. Closed R _ (CallsAt t) Q e) (in_out C)

  -- they do the same to the global state, and are as long
  pub same_global : {f : M.Fn} {p : K.Place} (R : Run M K f p) (k : Bool) (g : M.Global)
      → run_global N J (run_in R) k g ≡ run_global M K R k g
  same_global Here k g = refl
  same_global (Skipped R t) k g = same_global R k g
  same_global (Gone {f = f} R e t) k g = ap (M.next_global e f k) (same_global R k g)
  same_global (Closed R s t C e) k g = ap (run_global N J (run_in C) false) (same_global R k g) ∙ same_global C false (run_global M K R k g)

  pub same_length : {f : M.Fn} {p : K.Place} (R : Run M K f p) → run_length N J (run_in R) ≡ run_length M K R
  same_length Here = refl
  same_length (Skipped R t) = same_length R
  same_length (Gone R e t) = ap suc (same_length R)
  same_length (Closed R s t C e) = ap₂ (λ x y. suc (suc (x + y))) (same_length R) (same_length C)

  pub same_frames_length : {f : M.Fn} {k : Bool} {b : Callers M K} (O : OpenFrames M K f k b)
      → frames_length N J (frames_in O) ≡ frames_length M K O
  same_frames_length (RootFrame r) = refl
  same_frames_length (CalledFrame O R s h t) = ap₂ (λ x y. suc (x + y)) (same_frames_length O) (same_length R)
