-- Each run of a frame is met by frame edges of its length, without object and for each object that is followed; and
-- open frames are met by beginnings.
-- The induction goes over the run, the runs of callees among its parts, and then over the open frames.
use Rattle.std.proofs.Common.{◌≡◌, ℕ, suc, ◌+◌, Bool, false, Option, Some, None, refl, sym, ◌∙◌, ap, subst, option_and_then}
use Rattle.path_theory.specs.Model.{Model, Map}
use Rattle.path_theory.specs.Supergraph.{Supergraph}
use Rattle.path_theory.specs.Callers.{Callers}
use Rattle.path_theory.specs.Origins.{Origins, IsLocal, handed}
use Rattle.path_theory.specs.Runs.{Run, Here, Skipped, Gone, Closed, run_global, run_map, origin}
use Rattle.path_theory.specs.OpenFrames.{OpenFrames, RootFrame, CalledFrame, at_entry}
use Rattle.path_theory.specs.Facts.{NoObject, HasObject, Fact, Gives, fact_of, Objects}
use Rattle.path_theory.specs.Flows.{StartsNone, StartsUnknown, EventNone, EventObject, CallNone, CallObject, ReturnNone, ReturnObject}
use Rattle.path_theory.specs.Relevant.{IsClosed}
use Rattle.path_theory.specs.PathLengths.{run_length, frames_length}
use Rattle.path_theory.specs.FrameEdges.{FrameEdge, AtEntryIn, AlongSkipIn, AlongEventIn, OverCallIn, AroundCallIn, Begins, BeginsRoot, BeginsCall}
use Rattle.path_theory.proofs.SmallFacts.{if_no_object, gives_fact_of, then_known, none_known}
use Rattle.path_theory.proofs.Known.{event_of, call_of, in_callee, origin_in, Known, known_entered, known_run}

module _ (M : Model) (K : Supergraph M) (L : Origins M) (I : IsLocal M L) (A : Objects M) (Q : IsClosed M K L A) where
  closed_origin : {f h : M.Fn} {p q r : K.Place} (R : Run M K f p) (s : M.Site) (t : K.Calls f p s h q)
      (C : Run M K h r) (e : K.Ends h r) (o : M.Obj) (z : Option M.Obj)
      → L.out s o ≡ z
      → origin M K L (Closed R s t C e) o ≡ handed z (λ c. option_and_then (origin M K L R) (option_and_then (L.into s) (origin M K L C c))) (origin M K L R o)
  closed_origin R s t C e o z d = ap (λ y. handed y (λ c. option_and_then (origin M K L R) (option_and_then (L.into s) (origin M K L C c))) (origin M K L R o)) d

  closed_state : {f h : M.Fn} {p q r : K.Place} (R : Run M K f p) (s : M.Site) (t : K.Calls f p s h q)
      (C : Run M K h r) (e : K.Ends h r) (k : Bool) (g : M.Global) (m : Map M) (o : M.Obj) (z : Option M.Obj)
      → L.out s o ≡ z
      → run_map M K (Closed R s t C e) k g m o ≡ handed z (in_callee M K R s C k g m) (run_map M K R k g m o)
  closed_state R s t C e k g m o z d = I.returned s (in_callee M K R s C k g m) (run_map M K R k g m) o ∙ ap (λ y. handed y (in_callee M K R s C k g m) (run_map M K R k g m o)) d

  abbrev D : M.Fn → Bool → M.Global → Fact M → K.Place → M.Global → Fact M → ℕ → Type 0
  D = FrameEdge M K L A

  -- the frame edges of a run: without object, and of each object that is followed
  pub record Costed {f : M.Fn} {p : K.Place} (R : Run M K f p) (k : Bool) (g : M.Global) (m : Map M) : Type 0 where
    pub bare : D f k g NoObject p (run_global M K R k g) NoObject (run_length M K R)
    pub object : (o : M.Obj) → A f o
        → D f k g (fact_of (origin M K L R o) m) p (run_global M K R k g) (HasObject o (run_map M K R k g m o)) (run_length M K R)

  same : {f : M.Fn} {k : Bool} {g i : M.Global} {p : K.Place} {t₀ t₁ t u : Fact M} {n : ℕ} → D f k g t₀ p i t n
      → t₀ ≡ t₁ → t ≡ u → D f k g t₁ p i u n
  same {f = f} {k = k} {g = g} {i = i} {p = p} {t₁ = t₁} {t = t} {n = n} d a b = subst (λ y. D f k g t₁ p i y n) b (subst (λ y. D f k g y p i t n) a d)

  pub covers : {f : M.Fn} {p : K.Place} (R : Run M K f p) (k : Bool) (g : M.Global) (m : Map M) → Costed R k g m
      → (z : Option M.Obj) → ((b : M.Obj) → z ≡ Some b → A f b)
      → D f k g (fact_of (option_and_then (origin M K L R) z) m) p (run_global M K R k g) (fact_of z (run_map M K R k g m)) (run_length M K R)
  covers R k g m c None h = c.bare
  covers R k g m c (Some o) h = c.object o (h o refl)

  costed_go : {f : M.Fn} {p q : K.Place} (R : Run M K f p) (e : M.Event) (t : K.Goes f p e q) (k : Bool)
      (g : M.Global) (m : Map M)
      → Costed R k g m → Costed (Gone R e t) k g m
  costed_go {f = f} R e t k g m c = record {
    bare = AlongEventIn c.bare e t EventNone;
    object = λ o a. same
        (AlongEventIn (covers R k g m c (L.source e o) (λ b d. Q.source o b (event_of M K R e t) d a)) e t (EventObject o (option_and_then (run_map M K R k g m) (L.source e o)) (if_no_object (fact_of (L.source e o) (run_map M K R k g m)) a) (gives_fact_of (L.source e o) (run_map M K R k g m))))
        refl
        (ap (λ x. HasObject o (M.choose e f k (run_global M K R k g) o x)) (sym (I.moved e (run_map M K R k g m) o)));
  }

  handed_object : {f h : M.Fn} {p q r : K.Place} (R : Run M K f p) (s : M.Site) (t : K.Calls f p s h q)
      (C : Run M K h r) (e : K.Ends h r) (k : Bool) (g : M.Global) (m : Map M)
      → Costed R k g m → Costed C false (run_global M K R k g) (M.entered s (run_map M K R k g m)) → (o b : M.Obj)
      → A f o → A h b → L.out s o ≡ Some b → (y : Option M.Obj) → origin M K L C b ≡ y
      → D f k g (fact_of (option_and_then (origin M K L R) (option_and_then (L.into s) y)) m) q (run_global M K C false (run_global M K R k g)) (HasObject o (in_callee M K R s C k g m b)) (suc (suc (run_length M K R + run_length M K C)))
  handed_object R s t C e k g m c v o b a l d None i =
      OverCallIn c.bare s t CallNone (same (v.object b l) (ap (λ y. fact_of y (M.entered s (run_map M K R k g m))) i) refl) e (ReturnObject o b _ a d)
  handed_object {h = h} R s t C e k g m c v o b a l d (Some z) i =
      OverCallIn (covers R k g m c (L.into s z) (λ y j. Q.into z y (call_of M K R s t) j (origin_in M K L I A Q C b z i l))) s t
      (CallObject z (M.entered s (run_map M K R k g m) z) (origin_in M K L I A Q C b z i l)
      (subst (λ x. Gives (L.into s z) (fact_of (L.into s z) (run_map M K R k g m)) x) (sym (I.entered s (run_map M K R k g m) z)) (gives_fact_of (L.into s z) (run_map M K R k g m))))
      (same (v.object b l) (ap (λ y. fact_of y (M.entered s (run_map M K R k g m))) i) refl) e (ReturnObject o b _ a d)

  closed_object : {f h : M.Fn} {p q r : K.Place} (R : Run M K f p) (s : M.Site) (t : K.Calls f p s h q)
      (C : Run M K h r) (e : K.Ends h r) (k : Bool) (g : M.Global) (m : Map M)
      → Costed R k g m → Costed C false (run_global M K R k g) (M.entered s (run_map M K R k g m)) → (o : M.Obj) → A f o
      → (z : Option M.Obj) → L.out s o ≡ z
      → D f k g (fact_of (origin M K L (Closed R s t C e) o) m) q (run_global M K C false (run_global M K R k g)) (HasObject o (run_map M K (Closed R s t C e) k g m o)) (suc (suc (run_length M K R + run_length M K C)))
  closed_object R s t C e k g m c v o a None d =
      same (AroundCallIn (c.object o a) s t v.bare e d) (ap (λ y. fact_of y m) (sym (closed_origin R s t C e o None d))) (ap (HasObject o) (sym (closed_state R s t C e k g m o None d)))
  closed_object R s t C e k g m c v o a (Some b) d =
      same (handed_object R s t C e k g m c v o b a (Q.out o b (call_of M K R s t) d a) d (origin M K L C b) refl) (ap (λ y. fact_of y m) (sym (closed_origin R s t C e o (Some b) d))) (ap (HasObject o) (sym (closed_state R s t C e k g m o (Some b) d)))

  -- each run has its frame edges
  pub costed : {f : M.Fn} {p : K.Place} (R : Run M K f p) (k : Bool) (g : M.Global) (m : Map M) → Costed R k g m
  costed Here k g m = record { bare = AtEntryIn tt; object = λ o a. AtEntryIn a }
  costed (Skipped R t) k g m = let c = costed R k g m in record { bare = AlongSkipIn c.bare t; object = λ o a. AlongSkipIn (c.object o a) t }
  costed (Gone R e t) k g m = costed_go R e t k g m (costed R k g m)
  costed (Closed R s t C e) k g m =
      let c = costed R k g m in
      let v = costed C false (run_global M K R k g) (M.entered s (run_map M K R k g m)) in
      record { bare = OverCallIn c.bare s t CallNone v.bare e ReturnNone; object = λ o a. closed_object R s t C e k g m c v o a (L.out s o) refl }

  pub record BegunBy {f : M.Fn} {k : Bool} {b : Callers M K} (O : OpenFrames M K f k b) : Type 0 where
    pub bare : Begins M K L A f k (at_entry M K O).global NoObject (frames_length M K O)
    pub object : (o : M.Obj) → A f o
        → Begins M K L A f k (at_entry M K O).global (HasObject o ((at_entry M K O).here o)) (frames_length M K O)
    pub known : Known M K L I A Q f (at_entry M K O).here

  pub begins_fact : {f : M.Fn} {k : Bool} {b : Callers M K} (O : OpenFrames M K f k b) → BegunBy O
      → (z : Option M.Obj) → ((o : M.Obj) → z ≡ Some o → A f o)
      → Begins M K L A f k (at_entry M K O).global (fact_of z (at_entry M K O).here) (frames_length M K O)
  begins_fact O c None h = c.bare
  begins_fact O c (Some o) h = c.object o (h o refl)

  pub leads_in : {f : M.Fn} {p : K.Place} (R : Run M K f p) (z : Option M.Obj) → ((o : M.Obj) → z ≡ Some o → A f o)
      → (b : M.Obj) → option_and_then (origin M K L R) z ≡ Some b → A f b
  leads_in R z h b d = let w = then_known z (origin M K L R) b d in origin_in M K L I A Q R w.0 b w.2 (h w.0 w.1)

  -- open frames have their beginnings
  pub begun_by : {f : M.Fn} {k : Bool} {b : Callers M K} (O : OpenFrames M K f k b) → BegunBy O
  begun_by (RootFrame r) = record { bare = BeginsRoot r StartsNone; object = λ o a. BeginsRoot r (StartsUnknown o a); known = λ o x d. none_known x d }
  begun_by (CalledFrame {k = k} O R s h t) =
      let b = begun_by O in
      let g : M.Global = (at_entry M K O).global in
      let m : Map M = (at_entry M K O).here in
      let c = costed R k g m in
      record {
        bare = BeginsCall b.bare c.bare s t CallNone;
        object = λ o a.
            let into = λ (x : M.Obj) (d : L.into s o ≡ Some x). Q.into o x (call_of M K R s t) d a in
            subst (λ x. Begins M K L A h false (run_global M K R k g) (HasObject o x) (suc (frames_length M K O + run_length M K R))) (sym (I.entered s (run_map M K R k g m) o))
            (BeginsCall (begins_fact O b (option_and_then (origin M K L R) (L.into s o)) (leads_in R (L.into s o) into)) (covers R k g m c (L.into s o) into) s t
            (CallObject o (option_and_then (run_map M K R k g m) (L.into s o)) a (gives_fact_of (L.into s o) (run_map M K R k g m))));
        known = known_entered M K L I A Q R s t (run_map M K R k g m) (known_run M K L I A Q R k g m b.known);
      }
