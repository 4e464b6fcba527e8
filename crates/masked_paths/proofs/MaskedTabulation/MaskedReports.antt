-- Tabulation under a mask: the least set of path edges shows exactly the reports of all paths without it, where the family is
-- enough, and has exactly the realised tuples of what is followed, where it is closed.
use Rattle.std.proofs.Common.{◌≡◌, ◌↔◌, ℕ, Bool, Option, Some, List, Contains}
use Rattle.path_theory.specs.Model.{Model}
use Rattle.path_theory.specs.Paths.{Reported}
use Rattle.path_theory.specs.FlatPaths.{InErrors}
use Rattle.path_theory.specs.Origins.{Origins, IsLocal}
use Rattle.path_theory.specs.Facts.{Fact, IsFollowed}
use Rattle.path_theory.specs.Relevant.{IsClosed}
use Rattle.path_theory.specs.Realised.{Realised}
use Rattle.path_theory.specs.FlowGraphs.{FlowGraphs, Head, supergraph}
use Rattle.path_theory.proofs.FlatPaths.{in_errors}
use Rattle.path_theory.specs.TabulationRules.Rules.{EdgeIn, Seen, ShowsReport}
use Rattle.path_theory.specs.TabulationRules.LeastSets.{HasNumbers, IsLeastLog, IsLeastSet, Shown}
use Rattle.path_theory.proofs.TabulationRules.Closed.{least_set}
use Rattle.path_theory.proofs.TabulationRules.Reports.{reported, realised}
use Rattle.masked_paths.specs.Masked.{SiteIn, Mask, kept, masked, masked_origins, CallIn, CallAt, masked_graphs}
use Rattle.masked_paths.specs.Enough.{IsEnough}
use Rattle.masked_paths.proofs.MaskedLaws.{masked_local, graphs_closed}
use Rattle.masked_paths.proofs.MaskedEngine.{masked_graph_reports}
use Rattle.masked_paths.proofs.MaskedEntries.{masked_graph_realised}

module _ (M : Model) (L : Origins M) (a : Mask M) (G : FlowGraphs M) (function : ℕ → Option M.Fn) where
  callee_number : HasNumbers M G function → (f h : M.Fn) (m : ℕ) (s : SiteIn M.Fn M.Site) (b c : G.Block) → function m ≡ Some f
      → CallIn M L a G f b s h c → (n : ℕ) × function n ≡ Some h
  callee_number H f h m _ b c d (CallAt {s = s} j) = H.callee f h m s b c d j

  -- functions have the numbers that they have without the mask
  pub masked_numbers : HasNumbers M G function → HasNumbers (masked M L a) (masked_graphs M L a G) function
  masked_numbers H = record { root = λ f r. H.root f r; callee = callee_number H }

module _ (M : Model) (L : Origins M) (I : IsLocal M L) (a : Mask M) (G : FlowGraphs M) (function : ℕ → Option M.Fn) (H : HasNumbers M G function)
    (X : EdgeIn (masked M L a) (masked_origins M L a) (kept M a) (masked_graphs M L a G) function → Type 0)
    (S : IsLeastSet (masked M L a) (masked_origins M L a) (kept M a) (masked_graphs M L a G) function X) where
  -- the least set shows exactly the reports of all paths
  pub masked_reported : IsEnough M (supergraph M G) L (kept M a)
      → (r : M.Report) → Shown (masked M L a) (masked_origins M L a) (kept M a) (masked_graphs M L a G) function X r ↔ Reported M (supergraph M G) r
  masked_reported E r =
      let x = reported (masked M L a) (masked_origins M L a) (kept M a) (masked_graphs M L a G) function X (masked_numbers M L a G function H) S (masked_local M L a) (graphs_closed M L a G) r in
      let y = masked_graph_reports M L I a G E r in ((λ w. y.0 (x.0 w)), (λ w. x.1 (y.1 w)))

  pub masked_errors : IsEnough M (supergraph M G) L (kept M a)
      → (r : M.Report) → Shown (masked M L a) (masked_origins M L a) (kept M a) (masked_graphs M L a G) function X r ↔ InErrors M (supergraph M G) r
  masked_errors E r =
      let x = masked_reported E r in
      let y = in_errors M (supergraph M G) r in ((λ w. y.1 (x.0 w)), (λ w. x.1 (y.0 w)))

  -- and has exactly the realised tuples
  pub masked_realised : IsClosed M (supergraph M G) L (kept M a)
      → (f : M.Fn) (k : Bool) (g₀ : M.Global) (t₀ : Fact M) (b : G.Block) (g : M.Global) (t : Fact M)
      → Seen (masked M L a) (masked_origins M L a) (kept M a) (masked_graphs M L a G) function X f k g₀ t₀ b g t
      ↔ (Realised M (supergraph M G) L f k g₀ t₀ (Head b) g t × IsFollowed M (kept M a) f t)
  masked_realised Q f k g₀ t₀ b g t =
      let x = realised (masked M L a) (masked_origins M L a) (kept M a) (masked_graphs M L a G) function X (masked_numbers M L a G function H) S (masked_local M L a) (graphs_closed M L a G) f k g₀ t₀ b g t in
      let y = masked_graph_realised M L I a G Q f k g₀ t₀ b g t in ((λ w. y.0 (x.0 w)), (λ w. x.1 (y.1 w)))

module _ (M : Model) (L : Origins M) (I : IsLocal M L) (a : Mask M) (G : FlowGraphs M) (function : ℕ → Option M.Fn) (H : HasNumbers M G function)
    (log : List (EdgeIn (masked M L a) (masked_origins M L a) (kept M a) (masked_graphs M L a G) function))
    (S : IsLeastLog (masked M L a) (masked_origins M L a) (kept M a) (masked_graphs M L a G) function log) where
  -- the same of a list
  pub log_errors : IsEnough M (supergraph M G) L (kept M a)
      → (r : M.Report) → ((e : EdgeIn (masked M L a) (masked_origins M L a) (kept M a) (masked_graphs M L a G) function) × Contains log e × ShowsReport (masked M L a) (masked_origins M L a) (kept M a) (masked_graphs M L a G) function e r)
      ↔ InErrors M (supergraph M G) r
  log_errors = masked_errors M L I a G function H (Contains log) (least_set (masked M L a) (masked_origins M L a) (kept M a) (masked_graphs M L a G) function log S)

  pub log_realised : IsClosed M (supergraph M G) L (kept M a)
      → (f : M.Fn) (k : Bool) (g₀ : M.Global) (t₀ : Fact M) (b : G.Block) (g : M.Global) (t : Fact M)
      → Seen (masked M L a) (masked_origins M L a) (kept M a) (masked_graphs M L a G) function (Contains log) f k g₀ t₀ b g t
      ↔ (Realised M (supergraph M G) L f k g₀ t₀ (Head b) g t × IsFollowed M (kept M a) f t)
  log_realised = masked_realised M L I a G function H (Contains log) (least_set (masked M L a) (masked_origins M L a) (kept M a) (masked_graphs M L a G) function log S)
