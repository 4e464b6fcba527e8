-- What covers the met states of one program covers those of another whose traces it has: so what a flow graph meets covers what the
-- semantics does from which it was built.
use Rattle.std.proofs.Common.{refl, sym, ◌∙◌, ap, subst}
use Rattle.path_theory.specs.Model.{Model}
use Rattle.path_theory.specs.Supergraph.{Supergraph}
use Rattle.path_theory.specs.Trails.{More}
use Rattle.path_theory.specs.Walks.{AtEvent, WalkGo, HasTraces}
use Rattle.path_theory.specs.Runs.{run_global, labels_of}
use Rattle.path_theory.specs.OpenFrames.{at_entry}
use Rattle.path_theory.proofs.Splitting.{split, flat}
use Rattle.path_theory.proofs.Known.{walk_of}
use Rattle.path_theory.proofs.Traces.{twin_frames}
use Rattle.path_theory.proofs.Twins.{twin, last_go}
use Rattle.masked_paths.specs.Met.{MetStates, CoversMet}

module _ (M : Model) (K₁ K₂ : Supergraph M) (H : HasTraces M K₁ K₂) (R : MetStates M) where
  pub traces_cover_met : CoversMet M K₂ R → CoversMet M K₁ R
  traces_cover_met T = record {
    met = λ {f = f} {k = k} P e t.
        let s = split M K₁ P in
        let x = H.traces f (More (labels_of M K₁ s.run) (AtEvent e)) (_, WalkGo (walk_of M K₁ s.run) e t) in
        let y = last_go M K₂ x.1 refl in
        let v = twin M K₁ K₂ H s.run y.from y.walk in
        let w = twin_frames M K₁ K₂ H s.opened in
        let F = flat M K₂ w.opened v.run in
        subst (R f e k)
        (ap (λ n. n.global) F.state
        ∙ v.global k (at_entry M K₂ w.opened).global
        ∙ ap (run_global M K₁ s.run k) w.global
        ∙ ap (λ n. n.global) (sym s.state)) (T.met F.path e y.goes);
  }
