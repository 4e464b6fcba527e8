-- Supergraphs with the same traces have the same reports and the same realised tuples.
-- So what is proved of a flow graph holds of the semantics from which it was built.
use Rattle.std.proofs.Common.{◌≡◌, Bool, refl, sym, ◌∙◌, ap, subst}
use Rattle.path_theory.specs.Model.{Model, Map}
use Rattle.path_theory.specs.Supergraph.{Supergraph}
use Rattle.path_theory.specs.Trails.{More}
use Rattle.path_theory.specs.Walks.{AtEvent, AtCall, Walk, WalkGo, WalkCall, HasTraces}
use Rattle.path_theory.specs.Callers.{Callers, NoCaller}
use Rattle.path_theory.specs.Paths.{Reported, ReportOf, ReportOfGlobal}
use Rattle.path_theory.specs.Origins.{Origins}
use Rattle.path_theory.specs.Runs.{Run, run_global, run_map, origin, labels_of}
use Rattle.path_theory.specs.OpenFrames.{OpenFrames, RootFrame, CalledFrame, at_entry}
use Rattle.path_theory.specs.Facts.{NoObject, HasObject, Fact, fact_of}
use Rattle.path_theory.specs.Realised.{IsTracked, Realised, RealisedByTraces}
use Rattle.path_theory.proofs.Splitting.{split, flat}
use Rattle.path_theory.proofs.Known.{walk_of}
use Rattle.path_theory.proofs.Twins.{Twin, twin, last_go, last_call}

module _ (M : Model) (K₁ K₂ : Supergraph M) (H : HasTraces M K₁ K₂) where
  -- the frames below on the other supergraph
  pub record TwinFrames {f : M.Fn} {k : Bool} {b : Callers M K₁} (O : OpenFrames M K₁ f k b) : Type 0 where
    pub below : Callers M K₂
    pub opened : OpenFrames M K₂ f k below
    pub global : (at_entry M K₂ opened).global ≡ (at_entry M K₁ O).global
    pub here : (at_entry M K₂ opened).here ≡ (at_entry M K₁ O).here

  -- the state behind a run on open frames, on both supergraphs
  both_global : {f : M.Fn} {k : Bool} {p : K₁.Place} {b : Callers M K₁} (O : OpenFrames M K₁ f k b) (R : Run M K₁ f p)
      {q : K₂.Place} (w : TwinFrames O) (v : Twin M K₁ K₂ H R q)
      → run_global M K₂ v.run k (at_entry M K₂ w.opened).global ≡ run_global M K₁ R k (at_entry M K₁ O).global
  both_global {k = k} O R w v = v.global k (at_entry M K₂ w.opened).global ∙ ap (run_global M K₁ R k) w.global

  both_map : {f : M.Fn} {k : Bool} {p : K₁.Place} {b : Callers M K₁} (O : OpenFrames M K₁ f k b) (R : Run M K₁ f p)
      {q : K₂.Place} (w : TwinFrames O) (v : Twin M K₁ K₂ H R q)
      → run_map M K₂ v.run k (at_entry M K₂ w.opened).global (at_entry M K₂ w.opened).here ≡ run_map M K₁ R k (at_entry M K₁ O).global (at_entry M K₁ O).here
  both_map {k = k} O R w v = v.map k (at_entry M K₂ w.opened).global (at_entry M K₂ w.opened).here
      ∙ ap (λ g. run_map M K₁ R k g (at_entry M K₂ w.opened).here) w.global
      ∙ ap (run_map M K₁ R k (at_entry M K₁ O).global) w.here

  pub twin_frames : {f : M.Fn} {k : Bool} {b : Callers M K₁} (O : OpenFrames M K₁ f k b) → TwinFrames O
  twin_frames (RootFrame r) = record { below = NoCaller; opened = RootFrame (H.roots _ r); global = refl; here = refl }
  twin_frames (CalledFrame {f = f} {k = k} O R s h t) =
      let w = twin_frames O in
      let x = H.traces f (More (labels_of M K₁ R) (AtCall s h)) (_, WalkCall (walk_of M K₁ R) s h t) in
      let y = last_call M K₂ x.1 refl in
      let v = twin M K₁ K₂ H R y.from y.walk in
      record {
        below = _;
        opened = CalledFrame w.opened v.run s h y.calls;
        global = both_global O R w v;
        here = ap (M.entered s) (both_map O R w v);
      }

  -- each report of a path on the first supergraph is one of a path on the second
  pub reported_on : (r : M.Report) → Reported M K₁ r → Reported M K₂ r
  reported_on r (ReportOf {f = f} {k = k} P e t o i) =
      let s = split M K₁ P in
      let x = H.traces f (More (labels_of M K₁ s.run) (AtEvent e)) (_, WalkGo (walk_of M K₁ s.run) e t) in
      let y = last_go M K₂ x.1 refl in
      let v = twin M K₁ K₂ H s.run y.from y.walk in
      let w = twin_frames s.opened in
      let F = flat M K₂ w.opened v.run in
      ReportOf F.path e y.goes o
      (subst (λ n. M.Fires e f k n.global o (M.moved e n.here o) r) (sym F.state)
      (subst (λ (m : Map M). M.Fires e f k (run_global M K₂ v.run k (at_entry M K₂ w.opened).global) o (M.moved e m o) r) (sym (both_map s.opened s.run w v))
      (subst (λ g. M.Fires e f k g o (M.moved e (run_map M K₁ s.run k (at_entry M K₁ s.opened).global (at_entry M K₁ s.opened).here) o) r) (sym (both_global s.opened s.run w v))
      (subst (λ n. M.Fires e f k n.global o (M.moved e n.here o) r) s.state i))))
  reported_on r (ReportOfGlobal {f = f} {k = k} P e t i) =
      let s = split M K₁ P in
      let x = H.traces f (More (labels_of M K₁ s.run) (AtEvent e)) (_, WalkGo (walk_of M K₁ s.run) e t) in
      let y = last_go M K₂ x.1 refl in
      let v = twin M K₁ K₂ H s.run y.from y.walk in
      let w = twin_frames s.opened in
      let F = flat M K₂ w.opened v.run in
      ReportOfGlobal F.path e y.goes
      (subst (λ n. M.FiresGlobal e f k n.global r) (sym F.state)
      (subst (λ g. M.FiresGlobal e f k g r) (sym (both_global s.opened s.run w v))
      (subst (λ n. M.FiresGlobal e f k n.global r) s.state i)))

  module _ (L : Origins M) where
    tracked_on : {f : M.Fn} {k : Bool} {p : K₁.Place} {b : Callers M K₁} (O : OpenFrames M K₁ f k b)
        (R : Run M K₁ f p) {q : K₂.Place} (w : TwinFrames O) (v : Twin M K₁ K₂ H R q) (t₀ t : Fact M)
        → IsTracked M K₁ L R k (at_entry M K₁ O).global (at_entry M K₁ O).here t₀ t
        → IsTracked M K₂ L v.run k (at_entry M K₂ w.opened).global (at_entry M K₂ w.opened).here t₀ t
    tracked_on O R w v t₀ NoObject a = a
    tracked_on O R w v t₀ (HasObject o x) a = (
      ap (λ (m : Map M). m o) (both_map O R w v) ∙ a.0,
      a.1 ∙ ap (fact_of (origin M K₁ L R o)) (sym w.here) ∙ ap (λ z. fact_of z (at_entry M K₂ w.opened).here) (sym (v.origins L o)),
    )

    -- what is realised by the traces of the first supergraph is so at each place of the second to which a walk with
    -- the last frame's trace leads
    pub realised_on : {f : M.Fn} {k : Bool} {g₀ g : M.Global} {t₀ t : Fact M} {p : K₁.Place} {q : K₂.Place}
        (w : Realised M K₁ L f k g₀ t₀ p g t)
        → Walk M K₂ f (labels_of M K₁ w.run) q → Realised M K₂ L f k g₀ t₀ q g t
    realised_on {t₀ = t₀} {t = t} {q = q} w W =
        let v = twin M K₁ K₂ H w.run q W in
        let F = twin_frames w.opened in
        record {
          below = F.below;
          opened = F.opened;
          run = v.run;
          entry = F.global ∙ w.entry;
          global = both_global w.opened w.run F v ∙ w.global;
          tracked = tracked_on w.opened w.run F v t₀ t w.tracked;
        }

    -- by a path of the first and a walk on the second
    pub by_traces : {f : M.Fn} {k : Bool} {g₀ g : M.Global} {t₀ t : Fact M} {q : K₂.Place}
        → RealisedByTraces M K₁ K₂ L f k g₀ t₀ q g t → Realised M K₂ L f k g₀ t₀ q g t
    by_traces w = realised_on w.realised w.walk

-- and the other way round
module _ (M : Model) (K₁ K₂ : Supergraph M) (H : HasTraces M K₁ K₂) (J : HasTraces M K₂ K₁) (L : Origins M) where
  pub to_traces : {f : M.Fn} {k : Bool} {g₀ g : M.Global} {t₀ t : Fact M} {q : K₂.Place}
      → Realised M K₂ L f k g₀ t₀ q g t → RealisedByTraces M K₁ K₂ L f k g₀ t₀ q g t
  unfolding realised_on
  to_traces {f = f} {q = q} w =
      let W = walk_of M K₂ w.run in
      let x = J.traces f (labels_of M K₂ w.run) (q, W) in
      record {
        place = x.0;
        realised = realised_on M K₂ K₁ J L w x.1;
        walk = subst (λ l. Walk M K₂ f l q) (sym (twin M K₂ K₁ J w.run x.0 x.1).labels) W;
      }
