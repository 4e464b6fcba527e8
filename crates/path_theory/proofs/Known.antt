-- Each object that has a known state on a path, or gives a report there, is among those that are followed; and so is
-- each from which such an object has its state.
use Rattle.std.proofs.Common.{◌≡◌, Bool, false, Option, Some, None, refl, sym, ◌∙◌, subst, inl, inr, option_and_then}
use Rattle.path_theory.specs.Model.{Model, Map}
use Rattle.path_theory.specs.Supergraph.{Supergraph}
use Rattle.path_theory.specs.Walks.{Walk, WalkStart, WalkSkip, WalkGo, WalkCall}
use Rattle.path_theory.specs.Origins.{Origins, IsLocal}
use Rattle.path_theory.specs.Runs.{Run, Here, Skipped, Gone, Closed, run_global, run_map, origin, labels_of}
use Rattle.path_theory.specs.Facts.{Objects}
use Rattle.path_theory.specs.Relevant.{EventOf, CallOf, IsClosed}
use Rattle.path_theory.proofs.SmallFacts.{some_is, then_known, handed_known}

module _ (M : Model) (K : Supergraph M) where
  -- the walk of a run
  pub walk_of : {f : M.Fn} {p : K.Place} (R : Run M K f p) → Walk M K f (labels_of M K R) p
  walk_of Here = WalkStart
  walk_of (Skipped R t) = WalkSkip (walk_of R) t
  walk_of (Gone R e t) = WalkGo (walk_of R) e t
  walk_of (Closed {h = h} R s t C e) = WalkCall (walk_of R) s h t

  pub event_of : {f : M.Fn} {p q : K.Place} (R : Run M K f p) (e : M.Event) → K.Goes f p e q → EventOf M K f e
  event_of R e t = record { labels = labels_of M K R; from = _; to = _; walk = walk_of R; goes = t }

  pub call_of : {f h : M.Fn} {p q : K.Place} (R : Run M K f p) (s : M.Site) → K.Calls f p s h q → CallOf M K f s h
  call_of R s t = record { labels = labels_of M K R; from = _; to = _; walk = walk_of R; calls = t }

  -- the map of the callee at its end
  abbrev pub in_callee : {f h : M.Fn} {p r : K.Place} (R : Run M K f p) (s : M.Site) (C : Run M K h r) (k : Bool)
      (g : M.Global) (m : Map M)
      → Map M
  in_callee R s C k g m = run_map M K C false (run_global M K R k g) (M.entered s (run_map M K R k g m))

module _ (M : Model) (K : Supergraph M) (L : Origins M) (I : IsLocal M L) (A : Objects M) (Q : IsClosed M K L A) where
  -- an object that is followed leads back to one
  pub origin_in : {f : M.Fn} {p : K.Place} (R : Run M K f p) (o b : M.Obj) → origin M K L R o ≡ Some b → A f o → A f b
  origin_in {f = f} Here o b d a = subst (A f) (some_is o b d) a
  origin_in (Skipped R t) o b d a = origin_in R o b d a
  origin_in (Gone R e t) o b d a =
      let w = then_known (L.source e o) (origin M K L R) b d in
      origin_in R w.0 b w.2 (Q.source o w.0 (event_of M K R e t) w.1 a)
  origin_in (Closed R s t C e) o b d a =
      elim (handed_known (L.out s o) (λ c. option_and_then (origin M K L R) (option_and_then (L.into s) (origin M K L C c))) (origin M K L R o) b d) [
        | inl w ↦
            let v = then_known (option_and_then (L.into s) (origin M K L C w.0)) (origin M K L R) b w.2 in
            let u = then_known (origin M K L C w.0) (L.into s) v.0 v.1 in
            let call = call_of M K R s t in
            origin_in R v.0 b v.2 (Q.into u.0 v.0 call u.2 (origin_in C w.0 u.0 u.1 (Q.out o w.0 call w.1 a)))
        | inr i ↦ origin_in R o b i a
      ]

  -- the objects with known states are followed
  abbrev pub Known : M.Fn → Map M → Type 0
  Known f m = (o : M.Obj) (x : M.State) → m o ≡ Some x → A f o

  chosen_in : {f : M.Fn} {p q : K.Place} (R : Run M K f p) (e : M.Event) (t : K.Goes f p e q) (k : Bool)
      (g : M.Global) (m : Map M)
      → Known f m → (o : M.Obj) (x : M.State) (y : Option M.State) → M.moved e m o ≡ y → M.choose e f k g o y ≡ Some x
      → A f o
  chosen_in R e t k g m h o x None d i = Q.binds k g o x (event_of M K R e t) i
  chosen_in R e t k g m h o x (Some y) d i =
      let w = then_known (L.source e o) m y (sym (I.moved e m o) ∙ d) in
      Q.source_on o w.0 (event_of M K R e t) w.1 (h w.0 y w.2)

  pub known_entered : {f h : M.Fn} {p q : K.Place} (R : Run M K f p) (s : M.Site) (t : K.Calls f p s h q) (m : Map M)
      → Known f m → Known h (M.entered s m)
  known_entered R s t m a o x d =
      let w = then_known (L.into s o) m x (sym (I.entered s m o) ∙ d) in
      Q.into_on o w.0 (call_of M K R s t) w.1 (a w.0 x w.2)

  -- each object that has a known state behind a run is followed
  pub known_run : {f : M.Fn} {p : K.Place} (R : Run M K f p) (k : Bool) (g : M.Global) (m : Map M) → Known f m
      → Known f (run_map M K R k g m)
  known_run Here k g m h o x d = h o x d
  known_run (Skipped R t) k g m h o x d = known_run R k g m h o x d
  known_run (Gone R e t) k g m h o x d = chosen_in R e t k (run_global M K R k g) (run_map M K R k g m) (known_run R k g m h) o x (M.moved e (run_map M K R k g m) o) refl d
  known_run (Closed R s t C e) k g m h o x d =
      elim (handed_known (L.out s o) (in_callee M K R s C k g m) (run_map M K R k g m o) x (sym (I.returned s (in_callee M K R s C k g m) (run_map M K R k g m) o) ∙ d)) [
        | inl w ↦ Q.out_on o w.0 (call_of M K R s t) w.1 (known_run C false (run_global M K R k g) (M.entered s (run_map M K R k g m)) (known_entered R s t (run_map M K R k g m) (known_run R k g m h)) w.0 x w.2)
        | inr i ↦ known_run R k g m h o x i
      ]

  -- an object that gives a report is followed
  pub taken : {f : M.Fn} {p q : K.Place} (R : Run M K f p) (e : M.Event) (t : K.Goes f p e q) (k : Bool)
      (g : M.Global) (m : Map M)
      → Known f m → (o : M.Obj) (y : Option M.State) → M.moved e m o ≡ y → (r : M.Report) → M.Fires e f k g o y r
      → A f o
  taken R e t k g m h o None d r i = Q.fires k g o r (event_of M K R e t) i
  taken R e t k g m h o (Some y) d r i =
      let w = then_known (L.source e o) m y (sym (I.moved e m o) ∙ d) in
      Q.source_on o w.0 (event_of M K R e t) w.1 (h w.0 y w.2)
