-- The theorem for an engine that keeps its entries by function and entry tuple alone.
-- Where each entry is a path edge and nothing else follows from them, they are exactly the realised tuples, and their
-- reports are those of all paths.
use Rattle.std.proofs.Common.{Bool, ◌↔◌}
use Rattle.path_theory.specs.Model.{Model}
use Rattle.path_theory.specs.Paths.{Reported}
use Rattle.path_theory.specs.Origins.{Origins, IsLocal}
use Rattle.path_theory.specs.Facts.{Objects, Fact, IsFollowed}
use Rattle.path_theory.specs.Tabulation.{AlongSkip}
use Rattle.path_theory.specs.Realised.{Realised}
use Rattle.path_theory.specs.Relevant.{IsClosed}
use Rattle.path_theory.specs.FlowGraphs.{FlowGraphs, Head, EntersBlock, supergraph}
use Rattle.path_theory.specs.FrameEnds.{Exits, ExitsApart}
use Rattle.path_theory.specs.Merged.{Kinds, IsSaturatedMerged, Shown}
use Rattle.path_theory.proofs.Entries.{realised, path_edge, followed}
use Rattle.path_theory.proofs.Reports.{reported, found}
use Rattle.path_theory.proofs.Saturated.{shown}
use Rattle.path_theory.proofs.MergedComplete.{merged_least, merged_shown}
use Rattle.path_theory.proofs.MergedSound.{MergedEdge}

abbrev pub InSome : (M : Model) (L : Origins M) (G : FlowGraphs M) → M.Fn → M.Global → Fact M → G.Block → M.Global
    → Fact M → Type 0
InSome M L G f g₀ t₀ b g t = (k : Bool) × Realised M (supergraph M G) L f k g₀ t₀ (Head b) g t

module _ (M : Model) (L : Origins M) (A : Objects M) (G : FlowGraphs M) (C : Kinds M G) (E : Exits M) (N : ExitsApart M L E G) (I : IsLocal M L) (Q : IsClosed M (supergraph M G) L A)
    (X : M.Fn → M.Global → Fact M → G.Block → M.Global → Fact M → Type 0) (S : IsSaturatedMerged M L A G C X)
    (V : (f : M.Fn) (g₀ : M.Global) (t₀ : Fact M) (b : G.Block) (g : M.Global) (t : Fact M) → X f g₀ t₀ b g t → MergedEdge M L A G C f g₀ t₀ b g t) where
  -- the entries are what is realised in a frame of some kind
  pub merged_entries : (f : M.Fn) (g₀ : M.Global) (t₀ : Fact M) (b : G.Block) (g : M.Global) (t : Fact M)
      → X f g₀ t₀ b g t ↔ (InSome M L G f g₀ t₀ b g t × IsFollowed M A f t)
  merged_entries f g₀ t₀ b g t = (
    (λ x. let d = V f g₀ t₀ b g t x in ((C.kind f g₀ t₀, realised M (supergraph M G) L I A d), followed M (supergraph M G) L I A Q d)),
    (λ w. merged_least M L A G C E N X S (path_edge M (supergraph M G) L I A Q t w.0.1 w.1)),
  )

  -- and the reports are those of all paths
  pub merged_reports : (r : M.Report) → Shown M L A G C X r ↔ Reported M (supergraph M G) r
  merged_reports r = (
    (λ w. reported M (supergraph M G) L I A r (shown M L A G r (G.events w.fn w.block) (AlongSkip (V _ _ _ _ _ _ w.entry) (EntersBlock w.block)) w.shows)),
    (λ w. merged_shown M L A G C E N X S r (found M (supergraph M G) L I A Q r w)),
  )
