-- The least set has exactly the path edges at the heads of blocks, and shows exactly the reports of all paths.
use Rattle.std.proofs.Common.{ℕ, Bool, Option, List, Contains, ◌↔◌}
use Rattle.path_theory.specs.Model.{Model}
use Rattle.path_theory.specs.Paths.{Reported}
use Rattle.path_theory.specs.FlatPaths.{InErrors}
use Rattle.path_theory.specs.Origins.{Origins, IsLocal}
use Rattle.path_theory.specs.Facts.{Fact, Objects, IsFollowed}
use Rattle.path_theory.specs.Tabulation.{PathEdge, Found}
use Rattle.path_theory.specs.Realised.{Realised}
use Rattle.path_theory.specs.Relevant.{IsClosed}
use Rattle.path_theory.specs.FlowGraphs.{FlowGraphs, Head, supergraph}
use Rattle.path_theory.specs.Saturated.{ShownInKind}
use Rattle.path_theory.proofs.FlatPaths.{in_errors}
use Rattle.path_theory.proofs.Entries as path_entries
use Rattle.path_theory.proofs.Reports as path_reports
use Rattle.path_theory.proofs.Saturated.{least, given, found_of}
use Rattle.path_theory.specs.TabulationRules.Rules.{EdgeIn, Seen, ShowsReport}
use Rattle.path_theory.specs.TabulationRules.LeastSets.{HasNumbers, IsLeastLog, IsLeastSet, Shown}
use Rattle.path_theory.proofs.TabulationRules.Closed.{least_set, saturated}
use Rattle.path_theory.proofs.TabulationRules.Edges.{only_edges}

module _ (M : Model) (L : Origins M) (A : Objects M) (G : FlowGraphs M) (function : ℕ → Option M.Fn) where
  module _ (X : EdgeIn M L A G function → Type 0) (N : HasNumbers M G function) (S : IsLeastSet M L A G function X) where
    edge : (f : M.Fn) (k : Bool) (g₀ : M.Global) (t₀ : Fact M) (b : G.Block) (g : M.Global) (t : Fact M)
        → Seen M L A G function X f k g₀ t₀ b g t → PathEdge M (supergraph M G) L A f k g₀ t₀ (Head b) g t
    edge f k g₀ t₀ b g t x = only_edges M L A G function (S.only _ x.among) f x.named

    -- the members are exactly the path edges at the heads of blocks
    pub edges : (f : M.Fn) (k : Bool) (g₀ : M.Global) (t₀ : Fact M) (b : G.Block) (g : M.Global) (t : Fact M)
        → Seen M L A G function X f k g₀ t₀ b g t ↔ PathEdge M (supergraph M G) L A f k g₀ t₀ (Head b) g t
    edges f k g₀ t₀ b g t = (
      edge f k g₀ t₀ b g t,
      least M L A G (Seen M L A G function X) (saturated M L A G function X N S.closed),
    )

    shown_in_kind : (r : M.Report) → Shown M L A G function X r ↔ ShownInKind M L A G (Seen M L A G function X) r
    shown_in_kind r = (
      (λ w. record { fn = w.2.fn; is_root = w.0.is_root; global₀ = w.0.context.entry.global; fact₀ = w.0.context.entry.fact; block = w.0.block; global = w.0.tuple.global; fact = w.0.tuple.fact; entry = record { number = w.0.context.function; named = w.2.named; among = w.1 }; shows = w.2.shows }),
      (λ w. (_, w.entry.among, record { fn = w.fn; named = w.entry.named; shows = w.shows })),
    )

    -- they show exactly the reports of path edges
    pub found : (r : M.Report) → Shown M L A G function X r ↔ Found M (supergraph M G) L A r
    found r = (
      (λ w. found_of M L A G (Seen M L A G function X) edge r ((shown_in_kind r).0 w)),
      (λ w. (shown_in_kind r).1 (given M L A G (Seen M L A G function X) (saturated M L A G function X N S.closed) r w)),
    )

    module _ (I : IsLocal M L) (Q : IsClosed M (supergraph M G) L A) where
      -- the members are exactly the realised tuples of objects that are followed
      pub realised : (f : M.Fn) (k : Bool) (g₀ : M.Global) (t₀ : Fact M) (b : G.Block) (g : M.Global) (t : Fact M)
          → Seen M L A G function X f k g₀ t₀ b g t
          ↔ (Realised M (supergraph M G) L f k g₀ t₀ (Head b) g t × IsFollowed M A f t)
      realised f k g₀ t₀ b g t =
          let member = edges f k g₀ t₀ b g t in
          let path = path_entries.entries M (supergraph M G) L I A Q f k g₀ t₀ (Head b) g t in ((λ x. path.0 (member.0 x)), (λ x. member.1 (path.1 x)))

      -- they show exactly the reports of all paths
      pub reported : (r : M.Report) → Shown M L A G function X r ↔ Reported M (supergraph M G) r
      reported r =
          let member = found r in
          let path = path_reports.reports M (supergraph M G) L I A Q r in ((λ x. path.0 (member.0 x)), (λ x. member.1 (path.1 x)))

      pub errors : (r : M.Report) → Shown M L A G function X r ↔ InErrors M (supergraph M G) r
      errors r =
          let member = reported r in
          let path = in_errors M (supergraph M G) r in ((λ x. path.1 (member.0 x)), (λ x. member.1 (path.0 x)))

  module _ (log : List (EdgeIn M L A G function)) (N : HasNumbers M G function) (S : IsLeastLog M L A G function log) (I : IsLocal M L) (Q : IsClosed M (supergraph M G) L A) where
    -- a log that is the least set shows exactly the reports of all paths
    pub log_reported : (r : M.Report) → ((e : EdgeIn M L A G function) × Contains log e × ShowsReport M L A G function e r) ↔ Reported M (supergraph M G) r
    log_reported = reported (Contains log) N (least_set M L A G function log S) I Q

    pub reports : (r : M.Report) → ((e : EdgeIn M L A G function) × Contains log e × ShowsReport M L A G function e r) ↔ InErrors M (supergraph M G) r
    reports = errors (Contains log) N (least_set M L A G function log S) I Q
