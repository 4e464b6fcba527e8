-- The reports of path edges with lengths are those of paths of these lengths: so a shortest path is a least sum of
-- lengths.
use Rattle.std.proofs.Common.{◌≡◌, ℕ, suc, ◌+◌, arith, Some, refl, sym, ◌∙◌, ap, subst, ◌↔◌, option_and_then}
use Rattle.path_theory.specs.Model.{Model, Map}
use Rattle.path_theory.specs.Supergraph.{Supergraph}
use Rattle.path_theory.specs.Paths.{Now}
use Rattle.path_theory.specs.Origins.{Origins, IsLocal}
use Rattle.path_theory.specs.Runs.{run_global, run_map, origin}
use Rattle.path_theory.specs.OpenFrames.{at_entry}
use Rattle.path_theory.specs.Facts.{Objects, fact_of}
use Rattle.path_theory.specs.Relevant.{IsClosed}
use Rattle.path_theory.specs.PathLengths.{ReportedIn, ReportOfIn, ReportOfGlobalIn}
use Rattle.path_theory.specs.FrameEdges.{FoundIn, FoundObjectIn, FoundGlobalIn}
use Rattle.path_theory.proofs.SmallFacts.{if_no_object, gives_fact_of}
use Rattle.path_theory.proofs.Splitting.{split, flat}
use Rattle.path_theory.proofs.Tracking.{gives_state}
use Rattle.path_theory.proofs.FrameSound.{fits, begun, at_frame}
use Rattle.path_theory.proofs.Known.{event_of, known_run, taken}
use Rattle.path_theory.proofs.FrameComplete.{costed, covers, begun_by, begins_fact, leads_in}

plus_same : {a b n m : ℕ} → a ≡ n → b ≡ m → suc (a + b) ≡ suc (n + m)
plus_same d e = omega arith

module _ (M : Model) (K : Supergraph M) (L : Origins M) (I : IsLocal M L) (A : Objects M) where
  -- each report of an entry with its length is one of a path of that length
  pub reported_in : (r : M.Report) (n : ℕ) → FoundIn M K L A r n → ReportedIn M K r n
  reported_in r _ (FoundObjectIn {f = f} {k = k} {t₀ = t₀} B C e t o x a v i) =
      let b = begun M K L I A B in
      let w = fits M K L I A C in
      let P = flat M K b.opened w.run in
      subst (ReportedIn M K r) (ap suc P.length ∙ plus_same b.length w.length)
      (ReportOfIn P.path e t o
      (subst (λ n. M.Fires e f k n.global o (M.moved e n.here o) r) (sym P.state)
      (subst (λ y. M.Fires e f k (run_global M K w.run k (at_entry M K b.opened).global) o y r)
      (sym (I.moved e (run_map M K w.run k (at_entry M K b.opened).global (at_entry M K b.opened).here) o ∙ gives_state M K L I A w.run k _ _ t₀ v (at_frame M K L I A b w)))
      (subst (λ y. M.Fires e f k y o x r) (sym (ap (run_global M K w.run k) b.global ∙ w.global)) i))))
  reported_in r _ (FoundGlobalIn {f = f} {k = k} B C e t i) =
      let b = begun M K L I A B in
      let w = fits M K L I A C in
      let P = flat M K b.opened w.run in
      subst (ReportedIn M K r) (ap suc P.length ∙ plus_same b.length w.length)
      (ReportOfGlobalIn P.path e t
      (subst (λ n. M.FiresGlobal e f k n.global r) (sym P.state)
      (subst (λ y. M.FiresGlobal e f k y r) (sym (ap (run_global M K w.run k) b.global ∙ w.global)) i)))

  module _ (Q : IsClosed M K L A) where
    -- each report of a path is one of an entry, with its length
    pub found_in : (r : M.Report) (n : ℕ) → ReportedIn M K r n → FoundIn M K L A r n
    found_in r _ (ReportOfIn {f = f} {k = k} P e t o i) =
        let w = split M K P in
        let n : Now M K _ = at_entry M K w.opened in
        let m : Map M = run_map M K w.run k n.global n.here in
        let b = begun_by M K L I A Q w.opened in
        let c = costed M K L I A Q w.run k n.global n.here in
        let j : M.Fires e f k (run_global M K w.run k n.global) o (M.moved e m o) r = subst (λ y. M.Fires e f k y.global o (M.moved e y.here o) r) w.state i in
        let a : A f o = taken M K L I A Q w.run e t k _ m (known_run M K L I A Q w.run k n.global n.here b.known) o (M.moved e m o) refl r j in
        let source = λ (x : M.Obj) (d : L.source e o ≡ Some x). Q.source o x (event_of M K w.run e t) d a in
        subst (FoundIn M K L A r) (ap suc (sym w.length))
        (FoundObjectIn (begins_fact M K L I A Q w.opened b (option_and_then (origin M K L w.run) (L.source e o)) (leads_in M K L I A Q w.run (L.source e o) source)) (covers M K L I A Q w.run k n.global n.here c (L.source e o) source) e t o (option_and_then m (L.source e o)) (if_no_object (fact_of (L.source e o) m) a) (gives_fact_of (L.source e o) m)
        (subst (λ y. M.Fires e f k (run_global M K w.run k n.global) o y r) (I.moved e m o) j))
    found_in r _ (ReportOfGlobalIn {f = f} {k = k} P e t i) =
        let w = split M K P in
        let n : Now M K _ = at_entry M K w.opened in
        subst (FoundIn M K L A r) (ap suc (sym w.length))
        (FoundGlobalIn (begun_by M K L I A Q w.opened).bare (costed M K L I A Q w.run k n.global n.here).bare e t (subst (λ y. M.FiresGlobal e f k y.global r) w.state i))

    -- the lengths are exactly those of paths
    pub lengths : (r : M.Report) (n : ℕ) → FoundIn M K L A r n ↔ ReportedIn M K r n
    lengths r n = (reported_in r n, found_in r n)
