-- The path edges under a mask find each report in exactly the numbers of steps in which paths take it without the mask: so a
-- shortest path is the same, whichever objects are followed.
use Rattle.std.proofs.Common.{◌≡◌, ◌↔◌, ℕ, refl, subst}
use Rattle.path_theory.specs.Model.{Model}
use Rattle.path_theory.specs.Supergraph.{Supergraph}
use Rattle.path_theory.specs.Origins.{Origins, IsLocal}
use Rattle.path_theory.specs.PathLengths.{ReportedIn}
use Rattle.path_theory.specs.FrameEdges.{FoundIn}
use Rattle.path_theory.specs.FlowGraphs.{FlowGraphs, Point, PointSkips, PointGoes, PointCalls, PointEnds, supergraph}
use Rattle.path_theory.proofs.ReportLengths.{lengths}
use Rattle.masked_paths.specs.Masked.{EventIn, SiteIn, Mask, kept, masked, masked_origins, GoesIn, GoesAt, CallsIn, CallsAt, masked_supergraph, masked_graphs}
use Rattle.masked_paths.specs.Enough.{IsEnough}
use Rattle.masked_paths.proofs.MaskedLaws.{masked_local, graphs_closed}
use Rattle.masked_paths.proofs.MaskedGraphs.{point_in, skip_in, go_in, call_in, end_in, skip_back, go_back, call_back, end_back}
use Rattle.masked_paths.proofs.LockSteps.{LockStep, reported_in_step}
use Rattle.masked_paths.proofs.SameReports.{same_lengths}

module _ (M : Model) (L : Origins M) (a : Mask M) (G : FlowGraphs M) where
  abbrev N : Model
  N = masked M L a

  abbrev J : Supergraph N
  J = masked_supergraph M L a (supergraph M G)

  abbrev H : FlowGraphs N
  H = masked_graphs M L a G

  abbrev Is : M.Fn → Point G.Block M.Event → Point G.Block (EventIn M.Fn M.Event) → Type 0
  Is f p r = point_in M L a G f p ≡ r

  abbrev Of : M.Fn → Point G.Block (EventIn M.Fn M.Event) → Point G.Block M.Event → Type 0
  Of f r p = point_in M L a G f p ≡ r

  goes_to : (f : M.Fn) (p q : Point G.Block M.Event) (r : Point G.Block (EventIn M.Fn M.Event)) (e : EventIn M.Fn M.Event) → Is f p r
      → GoesIn M L a (supergraph M G) f p e q → PointGoes N H f r e (point_in M L a G f q)
  goes_to f p q r e d (GoesAt {e = c} t) = subst (λ x. PointGoes N H f x (record { fn = f; event = c }) (point_in M L a G f q)) d (go_in M L a G p q c t)

  calls_to : (f h : M.Fn) (p q : Point G.Block M.Event) (r : Point G.Block (EventIn M.Fn M.Event)) (s : SiteIn M.Fn M.Site) → Is f p r
      → CallsIn M L a (supergraph M G) f p s h q → PointCalls N H f r s h (point_in M L a G f q)
  calls_to f h p q r s d (CallsAt {s = c} t) = subst (λ x. PointCalls N H f x (record { caller = f; site = c; callee = h }) h (point_in M L a G f q)) d (call_in M L a G p q c t)

  pub into_graphs : LockStep N J (supergraph N H) Is
  into_graphs = record {
    root = λ f i. i;
    entry = λ f. refl;
    skips = λ f p q r d t. (point_in M L a G f q, subst (λ x. PointSkips N H f x (point_in M L a G f q)) d (skip_in M L a G p q t), refl);
    goes = λ f p q r e d t. (point_in M L a G f q, goes_to f p q r e d t, refl);
    calls = λ f h p q r s d t. (point_in M L a G f q, calls_to f h p q r s d t, refl);
    ends = λ f p r d t. subst (λ x. PointEnds N H f x) d (end_in M L a G p t);
  }

  pub out_of_graphs : LockStep N (supergraph N H) J Of
  out_of_graphs = record {
    root = λ f i. i;
    entry = λ f. refl;
    skips = λ f r t p d j. let v = skip_back M L a G p j d in (v.0, v.2, v.1);
    goes = λ f r t p e d j. let v = go_back M L a G p j d in (v.0, v.2, v.1);
    calls = λ f h r t p s d j. let v = call_back M L a G p j d in (v.0, v.2, v.1);
    ends = λ f r p d j. end_back M L a G p j d;
  }

  module _ (I : IsLocal M L) (E : IsEnough M (supergraph M G) L (kept M a)) where
    pub masked_lengths : (r : M.Report) (n : ℕ)
        → FoundIn N (supergraph N H) (masked_origins M L a) (kept M a) r n ↔ ReportedIn M (supergraph M G) r n
    masked_lengths r n =
        let x = lengths N (supergraph N H) (masked_origins M L a) (masked_local M L a) (kept M a) (graphs_closed M L a G) r n in
        let y = same_lengths M L I a (supergraph M G) E r n in (
          (λ w. y.0 (reported_in_step N (supergraph N H) J Of out_of_graphs r n (x.0 w))),
          (λ w. x.1 (reported_in_step N J (supergraph N H) Is into_graphs r n (y.1 w))),
        )
