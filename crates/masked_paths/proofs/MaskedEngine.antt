-- An engine whose log is the least set of entries under the mask has exactly the reports of all paths without it, where the
-- family is enough. Nothing is asked of it but the three parts of `IsLeastLog`.
use Rattle.std.proofs.Common.{◌↔◌, IsTrue}
use Rattle.path_theory.specs.Model.{Model}
use Rattle.path_theory.specs.Paths.{Reported}
use Rattle.path_theory.specs.Origins.{Origins, IsLocal}
use Rattle.path_theory.specs.FlowGraphs.{FlowGraphs, supergraph}
use Rattle.path_theory.specs.FrameEnds.{Exits, ExitsApart}
use Rattle.path_theory.specs.Merged.{Kinds, Shown}
use Rattle.path_theory.specs.Tabulation.{Found}
use Rattle.path_theory.specs.Entries.{Entry, among, IsLeastLog}
use Rattle.path_theory.proofs.Engine.{engine_reports}
use Rattle.path_theory.proofs.Reports.{reports}
use Rattle.masked_paths.specs.Masked.{Mask, kept, masked, masked_origins, masked_graphs}
use Rattle.masked_paths.specs.Enough.{IsEnough}
use Rattle.masked_paths.proofs.MaskedLaws.{masked_local, graphs_closed}
use Rattle.masked_paths.proofs.MaskedGraphs.{graph_reports}
use Rattle.masked_paths.proofs.MaskedEnds.{masked_exits, masked_apart}
use Rattle.masked_paths.proofs.SameReports.{same_reports}

module _ (M : Model) (L : Origins M) (I : IsLocal M L) (a : Mask M) (G : FlowGraphs M) (E : IsEnough M (supergraph M G) L (kept M a)) where
  -- the reports of all paths over the masked graphs
  pub masked_graph_reports : (r : M.Report) → Reported (masked M L a) (supergraph (masked M L a) (masked_graphs M L a G)) r ↔ Reported M (supergraph M G) r
  masked_graph_reports r =
      let x = graph_reports M L a G r in
      let y = same_reports M L I a (supergraph M G) E r in ((λ w. y.0 (x.0 w)), (λ w. x.1 (y.1 w)))

  -- the path edges under the mask show exactly the reports of all paths
  pub masked_found : (r : M.Report) → Found (masked M L a) (supergraph (masked M L a) (masked_graphs M L a G)) (masked_origins M L a) (kept M a) r ↔ Reported M (supergraph M G) r
  masked_found r =
      let x = reports (masked M L a) (supergraph (masked M L a) (masked_graphs M L a G)) (masked_origins M L a) (masked_local M L a) (kept M a) (graphs_closed M L a G) r in
      let y = masked_graph_reports r in ((λ w. y.0 (x.0 w)), (λ w. x.1 (y.1 w)))

  module _ (l : IsTrue a.loose) (C : Kinds (masked M L a) (masked_graphs M L a G)) (F : Exits M) (W : ExitsApart M L F G) (X : Entry (masked M L a) (masked_graphs M L a G) → Type 0)
      (least : IsLeastLog (masked M L a) (masked_origins M L a) (kept M a) (masked_graphs M L a G) C X) where
    -- so does a least log by function and entry tuple alone
    pub masked_log_reports : (r : M.Report)
        → Shown (masked M L a) (masked_origins M L a) (kept M a) (masked_graphs M L a G) C (among (masked M L a) (masked_graphs M L a G) X) r
        ↔ Reported M (supergraph M G) r
    masked_log_reports r =
        let x = engine_reports (masked M L a) (masked_origins M L a) (kept M a) (masked_graphs M L a G) C (masked_exits M L a F) (masked_apart M L a G F W l) (masked_local M L a) (graphs_closed M L a G) X least r in
        let y = masked_graph_reports r in ((λ w. y.0 (x.0 w)), (λ w. x.1 (y.1 w)))
