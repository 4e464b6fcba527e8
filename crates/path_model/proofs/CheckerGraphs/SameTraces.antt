-- Of a program with the same traces the same objects are relevant: what is closed on the one is closed on the other.
use Rattle.std.proofs.Common.{refl}
use Rattle.path_theory.specs.Facts.{Objects}
use Rattle.path_theory.specs.Model.{Model}
use Rattle.path_theory.specs.Origins.{Origins}
use Rattle.path_theory.specs.Relevant.{EventOf, CallOf, IsClosed}
use Rattle.path_theory.specs.Supergraph.{Supergraph}
use Rattle.path_theory.specs.Trails.{More}
use Rattle.path_theory.specs.Walks.{AtEvent, AtCall, WalkGo, WalkCall, HasTraces}
use Rattle.path_theory.proofs.Twins.{last_go, last_call}

module _ (M : Model) (K₁ K₂ : Supergraph M) (H : HasTraces M K₁ K₂) where
  -- a walk and one more step is a trace with one label more
  pub event_on : {f : M.Fn} {e : M.Event} → EventOf M K₁ f e → EventOf M K₂ f e
  event_on {f = f} {e = e} w =
      let x = H.traces f (More w.labels (AtEvent e)) (w.to, WalkGo w.walk e w.goes) in
      let y = last_go M K₂ x.1 refl in
      record { labels = w.labels; from = y.from; to = _; walk = y.walk; goes = y.goes }

  pub call_on : {f h : M.Fn} {s : M.Site} → CallOf M K₁ f s h → CallOf M K₂ f s h
  call_on {f = f} {h = h} {s = s} w =
      let x = H.traces f (More w.labels (AtCall s h)) (w.to, WalkCall w.walk s h w.calls) in
      let y = last_call M K₂ x.1 refl in
      record { labels = w.labels; from = y.from; to = _; walk = y.walk; calls = y.calls }

  pub closed_on : (L : Origins M) (A : Objects M) → IsClosed M K₂ L A → IsClosed M K₁ L A
  closed_on L A c = record {
    source = λ o b e s r. c.source o b (event_on e) s r;
    source_on = λ o b e s r. c.source_on o b (event_on e) s r;
    into = λ o b e s r. c.into o b (call_on e) s r;
    into_on = λ o b e s r. c.into_on o b (call_on e) s r;
    out = λ o b e s r. c.out o b (call_on e) s r;
    out_on = λ o b e s r. c.out_on o b (call_on e) s r;
    binds = λ k g o x e b. c.binds k g o x (event_on e) b;
    fires = λ k g o r e b. c.fires k g o r (event_on e) b;
  }
