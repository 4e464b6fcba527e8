-- The run of a frame on a second supergraph that has the traces of the first: the same run for each walk with its
-- trace.
-- Closed calls are found again by the whole traces of their callees.
use Rattle.std.proofs.Common.{◌≡◌, Bool, false, refl, sym, ◌∙◌, ap, subst, option_and_then}
use Rattle.path_theory.specs.Model.{Model, Map, stepped}
use Rattle.path_theory.specs.Supergraph.{Supergraph}
use Rattle.path_theory.specs.Trails.{Trail, Start, More}
use Rattle.path_theory.specs.Walks.{Label, AtEvent, AtCall, Labels, Walk, WalkStart, WalkSkip, WalkGo, WalkCall, HasTraces}
use Rattle.path_theory.specs.Origins.{Origins}
use Rattle.path_theory.specs.Runs.{Run, Here, Skipped, Gone, Closed, run_global, run_map, origin, labels_of}
use Rattle.path_theory.proofs.Known.{walk_of}
use Rattle.path_theory.proofs.SmallFacts.{start_more, more_init, then_same, handed_same}

more_does : {E S F : Type 0} {l m : Trail (Label E S F)} {a b : E} → More l (AtEvent a) ≡ More m (AtEvent b) → a ≡ b
more_does d = cc

more_site : {E S F : Type 0} {l m : Trail (Label E S F)} {a b : S} {f g : F}
    → More l (AtCall a f) ≡ More m (AtCall b g) → a ≡ b
more_site d = cc

more_callee : {E S F : Type 0} {l m : Trail (Label E S F)} {a b : S} {f g : F}
    → More l (AtCall a f) ≡ More m (AtCall b g) → f ≡ g
more_callee d = cc

does_calls : {E S F B : Type 0} {l m : Trail (Label E S F)} {a : E} {b : S} {f : F}
    → More l (AtEvent a) ≡ More m (AtCall b f) → B
does_calls d = cc

module _ (M : Model) (K₁ K₂ : Supergraph M) (H : HasTraces M K₁ K₂) where
  -- the same run on the other supergraph
  pub record Twin {f : M.Fn} {p : K₁.Place} (R : Run M K₁ f p) (q : K₂.Place) : Type 0 where
    pub run : Run M K₂ f q
    pub global : (k : Bool) (g : M.Global) → run_global M K₂ run k g ≡ run_global M K₁ R k g
    pub map : (k : Bool) (g : M.Global) (m : Map M) → run_map M K₂ run k g m ≡ run_map M K₁ R k g m
    pub origins : (L : Origins M) (o : M.Obj) → origin M K₂ L run o ≡ origin M K₁ L R o
    pub labels : labels_of M K₂ run ≡ labels_of M K₁ R

  twin_skip : {f : M.Fn} {p : K₁.Place} {R : Run M K₁ f p} {q r : K₂.Place} → Twin R q → K₂.Skips f q r → Twin R r
  twin_skip w t = record { run = Skipped w.run t; global = w.global; map = w.map; origins = w.origins; labels = w.labels }

  twin_here : {f : M.Fn} {l : Labels M} {q : K₂.Place} → Walk M K₂ f l q → l ≡ Start → Twin (Here {f = f}) q
  twin_here WalkStart d = record { run = Here; global = λ k g. refl; map = λ k g m. refl; origins = λ L o. refl; labels = refl }
  twin_here (WalkSkip W t) d = twin_skip (twin_here W d) t
  twin_here (WalkGo W e t) d = start_more (sym d)
  twin_here (WalkCall W s h t) d = start_more (sym d)

  twin_go : {f : M.Fn} {p r : K₁.Place} (R : Run M K₁ f p) (e : M.Event) (t : K₁.Goes f p e r)
      → ((q : K₂.Place) → Walk M K₂ f (labels_of M K₁ R) q → Twin R q) → {l : Labels M} {q : K₂.Place} → Walk M K₂ f l q
      → l ≡ More (labels_of M K₁ R) (AtEvent e) → Twin (Gone R e t) q
  twin_go R e t h WalkStart d = start_more d
  twin_go R e t h (WalkSkip W j) d = twin_skip (twin_go R e t h W d) j
  twin_go {f = f} R e t h (WalkGo {p = p} {q = q} W i j) d =
      let w = h p (subst (λ l. Walk M K₂ f l p) (more_init d) W) in
      record {
        run = Gone w.run e (subst (λ i. K₂.Goes f p i q) (more_does d) j);
        global = λ k g. ap (M.next_global e f k) (w.global k g);
        map = λ k g m. ap (λ y. stepped M e f k y (run_map M K₂ w.run k g m)) (w.global k g) ∙ ap (stepped M e f k (run_global M K₁ R k g)) (w.map k g m);
        origins = λ L o. then_same (L.source e o) _ _ (λ a d. w.origins L a);
        labels = ap (λ l. More l (AtEvent e)) w.labels;
      }
  twin_go R e t h (WalkCall W s i j) d = does_calls (sym d)

  -- a closed call on the other supergraph
  pub record TwinCall {h : M.Fn} {p : K₁.Place} (C : Run M K₁ h p) : Type 0 where
    pub place : K₂.Place
    pub twin : Twin C place
    pub ends : K₂.Ends h place

  twin_closed : {f h : M.Fn} {p q r : K₁.Place} (R : Run M K₁ f p) (s : M.Site) (t : K₁.Calls f p s h q)
      (C : Run M K₁ h r) (e : K₁.Ends h r)
      → ((q : K₂.Place) → Walk M K₂ f (labels_of M K₁ R) q → Twin R q) → TwinCall C → {l : Labels M} {q : K₂.Place}
      → Walk M K₂ f l q → l ≡ More (labels_of M K₁ R) (AtCall s h) → Twin (Closed R s t C e) q
  twin_closed R s t C e i c WalkStart d = start_more d
  twin_closed R s t C e i c (WalkSkip W j) d = twin_skip (twin_closed R s t C e i c W d) j
  twin_closed R s t C e i c (WalkGo W a j) d = does_calls d
  twin_closed {f = f} {h = h} R s t C e i c (WalkCall {p = p} {q = q} W a b j) d =
      let w = i p (subst (λ l. Walk M K₂ f l p) (more_init d) W) in
      record {
        run = Closed w.run s (subst (λ y. K₂.Calls f p s y q) (more_callee d) (subst (λ y. K₂.Calls f p y b q) (more_site d) j)) c.twin.run c.ends;
        global = λ k g. ap (run_global M K₂ c.twin.run false) (w.global k g) ∙ c.twin.global false (run_global M K₁ R k g);
        map = λ k g m.
            ap (λ y. M.returned s (run_map M K₂ c.twin.run false y (M.entered s (run_map M K₂ w.run k g m))) (run_map M K₂ w.run k g m)) (w.global k g)
            ∙ ap (λ y. M.returned s (run_map M K₂ c.twin.run false (run_global M K₁ R k g) (M.entered s y)) y) (w.map k g m)
            ∙ ap (λ y. M.returned s y (run_map M K₁ R k g m)) (c.twin.map false (run_global M K₁ R k g) (M.entered s (run_map M K₁ R k g m)));
        origins = λ L o. handed_same (L.out s o) _ _ _ _
            (λ b d2. ap (λ z. option_and_then (origin M K₂ L w.run) (option_and_then (L.into s) z)) (c.twin.origins L b) ∙ then_same (option_and_then (L.into s) (origin M K₁ L C b)) _ _ (λ a d3. w.origins L a))
            (λ d2. w.origins L o);
        labels = ap (λ l. More l (AtCall s h)) w.labels;
      }

  -- each run has one for each walk with its trace
  pub twin : {f : M.Fn} {p : K₁.Place} (R : Run M K₁ f p) (q : K₂.Place) → Walk M K₂ f (labels_of M K₁ R) q → Twin R q
  twin Here q W = twin_here W refl
  twin (Skipped R t) q W =
      let w = twin R q W in
      record { run = w.run; global = w.global; map = w.map; origins = w.origins; labels = w.labels }
  twin (Gone R e t) q W = twin_go R e t (twin R) W refl
  twin (Closed R s t C e) q W =
      let c = H.whole _ (labels_of M K₁ C) (_, walk_of M K₁ C, e) in
      twin_closed R s t C e (twin R) (record { place = c.0; twin = twin C c.0 c.1; ends = c.2 }) W refl

module _ (M : Model) (K₂ : Supergraph M) where
  -- the last step of a walk
  pub record LastGo (f : M.Fn) (l : Labels M) (e : M.Event) : Type 0 where
    pub from : K₂.Place
    pub to : K₂.Place
    pub walk : Walk M K₂ f l from
    pub goes : K₂.Goes f from e to

  pub last_go : {f : M.Fn} {l m : Labels M} {e : M.Event} {q : K₂.Place} → Walk M K₂ f l q → l ≡ More m (AtEvent e)
      → LastGo f m e
  last_go WalkStart d = start_more d
  last_go (WalkSkip W t) d = last_go W d
  last_go {f = f} (WalkGo {p = p} {q = q} W e t) d = record { from = p; to = q; walk = subst (λ l. Walk M K₂ f l p) (more_init d) W; goes = subst (λ e. K₂.Goes f p e q) (more_does d) t }
  last_go (WalkCall W s h t) d = does_calls (sym d)

  pub record LastCall (f : M.Fn) (l : Labels M) (s : M.Site) (h : M.Fn) : Type 0 where
    pub from : K₂.Place
    pub to : K₂.Place
    pub walk : Walk M K₂ f l from
    pub calls : K₂.Calls f from s h to

  pub last_call : {f h : M.Fn} {l m : Labels M} {s : M.Site} {q : K₂.Place} → Walk M K₂ f l q
      → l ≡ More m (AtCall s h) → LastCall f m s h
  last_call WalkStart d = start_more d
  last_call (WalkSkip W t) d = last_call W d
  last_call (WalkGo W e t) d = does_calls d
  last_call {f = f} {s = a} (WalkCall {p = p} {q = q} W s h t) d = record { from = p; to = q; walk = subst (λ l. Walk M K₂ f l p) (more_init d) W; calls = subst (λ y. K₂.Calls f p a y q) (more_callee d) (subst (λ y. K₂.Calls f p y h q) (more_site d) t) }
