-- Where a family is enough, each state on a path is the same with the mask and without it.
-- The induction goes over runs and open frames, since a path is both.
use Rattle.std.proofs.Common.{◌≡◌, Bool, false, IsTrue, Some, refl, ◌∙◌, ap}
use Rattle.path_theory.specs.Model.{Model, Map}
use Rattle.path_theory.specs.Supergraph.{Supergraph}
use Rattle.path_theory.specs.Callers.{Callers}
use Rattle.path_theory.specs.Origins.{Origins, IsLocal}
use Rattle.path_theory.specs.Runs.{Run, Here, Skipped, Gone, Closed, run_global, run_map}
use Rattle.path_theory.specs.OpenFrames.{OpenFrames, RootFrame, CalledFrame, at_entry}
use Rattle.path_theory.proofs.Splitting.{flat}
use Rattle.path_theory.proofs.Known.{call_of}
use Rattle.masked_paths.specs.Masked.{Mask, kept, masked, masked_supergraph}
use Rattle.masked_paths.specs.Enough.{IsEnough}
use Rattle.masked_paths.specs.States.{BelowAlike}
use Rattle.masked_paths.proofs.Masks.{same_choice, same_passed, same_back}
use Rattle.masked_paths.proofs.MaskedRuns.{run_in, callers_in, frames_in, same_global}

module _ (M : Model) (L : Origins M) (I : IsLocal M L) (a : Mask M) (K : Supergraph M) (E : IsEnough M K L (kept M a)) where
  abbrev N : Model
  N = masked M L a

  abbrev J : Supergraph N
  J = masked_supergraph M L a K

  -- two maps have the same states
  abbrev pub Agree : Map M → Map M → Type 0
  Agree n m = (o : M.Obj) → n o ≡ m o

  -- nothing is known outside the mask
  abbrev pub Within : M.Fn → Map M → Type 0
  Within f m = (o : M.Obj) (x : M.State) → m o ≡ Some x → IsTrue (a.follows f o)

  -- the map behind a run on open frames
  abbrev pub behind : {f : M.Fn} {k : Bool} {p : K.Place} {b : Callers M K} → OpenFrames M K f k b → Run M K f p → Map M
  behind {k = k} O R = run_map M K R k (at_entry M K O).global (at_entry M K O).here

  abbrev global_behind : {f : M.Fn} {k : Bool} {p : K.Place} {b : Callers M K} → OpenFrames M K f k b → Run M K f p → M.Global
  global_behind {k = k} O R = run_global M K R k (at_entry M K O).global

  -- and under the mask, from a map at the entry
  abbrev behind_in : {f : M.Fn} {k : Bool} {p : K.Place} {b : Callers M K} → OpenFrames M K f k b → Run M K f p → Map M → Map M
  behind_in {k = k} O R n = run_map N J (run_in M L a K R) k (at_entry M K O).global n

  pub within_behind : {f : M.Fn} {k : Bool} {p : K.Place} {b : Callers M K} (O : OpenFrames M K f k b) (R : Run M K f p)
      → Within f (behind O R)
  within_behind O R o x d = let w = flat M K O R in E.known w.path o x (ap (λ n. n.here o) w.state ∙ d)

  -- an event, whatever the global state under the mask is called
  pub same_go : {f : M.Fn} {k : Bool} {p q : K.Place} {b : Callers M K} (O : OpenFrames M K f k b) (R : Run M K f p)
      (e : M.Event) (t : K.Goes f p e q) (n : Map M)
      → Agree n (behind O R) → (i : M.Global) → i ≡ global_behind O R → (o : M.Obj)
      → N.choose (record { fn = f; event = e }) f k i o (N.moved (record { fn = f; event = e }) n o) ≡ behind O (Gone R e t) o
  same_go {f = f} {k = k} O R e t n h i d o =
      ap (λ j. N.choose (record { fn = f; event = e }) f k j o (N.moved (record { fn = f; event = e }) n o)) d
      ∙ same_choice a.loose (a.follows f) (behind O R) n h (within_behind O R) (a.follows f o) (L.source e o) (M.moved e (behind O R) o) (M.choose e f k (global_behind O R) o) (I.moved e (behind O R) o) (within_behind O (Gone R e t) o)

  pub same_call : {f h : M.Fn} {k : Bool} {p q : K.Place} {b : Callers M K} (O : OpenFrames M K f k b) (R : Run M K f p)
      (s : M.Site) (t : K.Calls f p s h q) (n : Map M)
      → Agree n (behind O R)
      → Agree (N.entered (record { caller = f; site = s; callee = h }) n) (at_entry M K (CalledFrame O R s h t)).here
  same_call {f = f} {h = h} O R s t n i c =
      same_passed a.loose (a.follows f) (behind O R) n i (within_behind O R) (a.follows h c) (L.into s c) (M.entered s (behind O R) c) (I.entered s (behind O R) c) (within_behind (CalledFrame O R s h t) Here c)

  same_return : {f h : M.Fn} {k : Bool} {p q r : K.Place} {b : Callers M K} (O : OpenFrames M K f k b) (R : Run M K f p)
      (s : M.Site) (t : K.Calls f p s h q) (C : Run M K h r) (e : K.Ends h r) (n l : Map M)
      → Agree n (behind O R) → Agree l (behind (CalledFrame O R s h t) C)
      → Agree (N.returned (record { caller = f; site = s; callee = h }) l n) (behind O (Closed R s t C e))
  same_return {f = f} {h = h} O R s t C e n l i j o =
      same_back a.loose (a.follows h) (behind (CalledFrame O R s h t) C) l j (within_behind (CalledFrame O R s h t) C) (a.follows f o) (L.out s o) (n o) (behind O R o) (behind O (Closed R s t C e) o)
      (I.returned s (behind (CalledFrame O R s h t) C) (behind O R) o) (i o) (within_behind O R o) (within_behind O (Closed R s t C e) o) (λ c d v. E.handed o c (call_of M K R s t) d v)

  -- the map behind a run on open frames, from maps that agree at its entry
  pub same_run : {f : M.Fn} {k : Bool} {p : K.Place} {b : Callers M K} (O : OpenFrames M K f k b) (R : Run M K f p) (n : Map M)
      → Agree n (at_entry M K O).here → Agree (behind_in O R n) (behind O R)
  same_run O Here n h o = h o
  same_run O (Skipped R t) n h o = same_run O R n h o
  same_run {k = k} O (Gone R e t) n h o = same_go O R e t (behind_in O R n) (same_run O R n h) _ (same_global M L a K R k (at_entry M K O).global) o
  same_run {f = f} {k = k} O (Closed {h = h} R s t C e) n m o =
      let entry = N.entered (record { caller = f; site = s; callee = h }) (behind_in O R n) in
      ap (λ g. N.returned (record { caller = f; site = s; callee = h }) (run_map N J (run_in M L a K C) false g entry) (behind_in O R n) o) (same_global M L a K R k (at_entry M K O).global)
      ∙ same_return O R s t C e (behind_in O R n) (behind_in (CalledFrame O R s h t) C entry) (same_run O R n m)
      (same_run (CalledFrame O R s h t) C entry (same_call O R s t (behind_in O R n) (same_run O R n m))) o

  -- the state at the entry of the last frame
  pub record SameEntry {f : M.Fn} {k : Bool} {b : Callers M K} (O : OpenFrames M K f k b) : Type 0 where
    pub global : (at_entry N J (frames_in M L a K O)).global ≡ (at_entry M K O).global
    pub here : (o : M.Obj) → (at_entry N J (frames_in M L a K O)).here o ≡ (at_entry M K O).here o
    pub below : BelowAlike M L a K f b (at_entry M K O).below (callers_in M L a K f b) (at_entry N J (frames_in M L a K O)).below

  -- the state behind a run of it
  pub record SameBehind {f : M.Fn} {k : Bool} {p : K.Place} {b : Callers M K} (O : OpenFrames M K f k b) (R : Run M K f p) : Type 0 where
    pub global : run_global N J (run_in M L a K R) k (at_entry N J (frames_in M L a K O)).global
        ≡ run_global M K R k (at_entry M K O).global
    pub map : (o : M.Obj) → run_map N J (run_in M L a K R) k (at_entry N J (frames_in M L a K O)).global (at_entry N J (frames_in M L a K O)).here o
        ≡ run_map M K R k (at_entry M K O).global (at_entry M K O).here o

  from_entry : {f : M.Fn} {k : Bool} {p : K.Place} {b : Callers M K} (O : OpenFrames M K f k b) (R : Run M K f p)
      → SameEntry O → SameBehind O R
  from_entry {k = k} O R w = record {
    global = ap (run_global N J (run_in M L a K R) k) w.global ∙ same_global M L a K R k (at_entry M K O).global;
    map = λ o. ap (λ g. run_map N J (run_in M L a K R) k g (at_entry N J (frames_in M L a K O)).here o) w.global ∙ same_run O R (at_entry N J (frames_in M L a K O)).here w.here o;
  }

  pub same_entry : {f : M.Fn} {k : Bool} {b : Callers M K} (O : OpenFrames M K f k b) → SameEntry O
  same_entry (RootFrame r) = record { global = refl; here = λ o. refl; below = tt }
  same_entry (CalledFrame O R s h t) =
      let v = same_entry O in
      let w = from_entry O R v in
      record { global = w.global; here = same_call O R s t _ w.map; below = (refl, refl, refl, refl, w.map, v.below) }

  pub same_behind : {f : M.Fn} {k : Bool} {p : K.Place} {b : Callers M K} (O : OpenFrames M K f k b) (R : Run M K f p)
      → SameBehind O R
  same_behind O R = from_entry O R (same_entry O)
