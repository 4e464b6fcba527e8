-- Where a family is closed, the log of an engine under the mask has exactly the realised tuples of what is followed: one
-- engine serves both, whether it is asked for reports alone or for its log.
use Rattle.std.proofs.Common.{◌↔◌, Bool, IsTrue}
use Rattle.path_theory.specs.Model.{Model}
use Rattle.path_theory.specs.Origins.{Origins, IsLocal}
use Rattle.path_theory.specs.Facts.{NoObject, HasObject, Fact, IsFollowed}
use Rattle.path_theory.specs.Relevant.{IsClosed}
use Rattle.path_theory.specs.Realised.{Realised}
use Rattle.path_theory.specs.FlowGraphs.{FlowGraphs, Head, supergraph}
use Rattle.path_theory.specs.FrameEnds.{Exits, ExitsApart}
use Rattle.path_theory.specs.Merged.{Kinds}
use Rattle.path_theory.specs.Entries.{Entry, among, IsLeastLog}
use Rattle.path_theory.proofs.Engine.{engine_entries}
use Rattle.path_theory.proofs.Merged.{InSome}
use Rattle.masked_paths.specs.Masked.{Mask, kept, masked, masked_origins, masked_graphs}
use Rattle.masked_paths.proofs.MaskedLaws.{masked_local, graphs_closed}
use Rattle.masked_paths.proofs.MaskedGraphs.{graph_realised}
use Rattle.masked_paths.proofs.MaskedEnds.{masked_exits, masked_apart}
use Rattle.masked_paths.proofs.SameRealised.{same_realised}

module _ (M : Model) (L : Origins M) (a : Mask M) where
  pub followed_in : (f : M.Fn) (t : Fact M) → IsFollowed M (kept M a) f t → IsFollowed (masked M L a) (kept M a) f t
  followed_in f NoObject i = tt
  followed_in f (HasObject o x) i = i

  pub followed_out : (f : M.Fn) (t : Fact M) → IsFollowed (masked M L a) (kept M a) f t → IsFollowed M (kept M a) f t
  followed_out f NoObject i = tt
  followed_out f (HasObject o x) i = i

module _ (M : Model) (L : Origins M) (I : IsLocal M L) (a : Mask M) (G : FlowGraphs M) (Q : IsClosed M (supergraph M G) L (kept M a)) where
  -- what the mask realises over its graphs, of what is followed
  pub masked_graph_realised : (f : M.Fn) (k : Bool) (g₀ : M.Global) (t₀ : Fact M) (b : G.Block) (g : M.Global) (t : Fact M)
      → (Realised (masked M L a) (supergraph (masked M L a) (masked_graphs M L a G)) (masked_origins M L a) f k g₀ t₀ (Head b) g t × IsFollowed (masked M L a) (kept M a) f t)
      ↔ (Realised M (supergraph M G) L f k g₀ t₀ (Head b) g t × IsFollowed M (kept M a) f t)
  masked_graph_realised f k g₀ t₀ b g t = (
    (λ w. let i = followed_out M L a f t w.1 in ((same_realised M (supergraph M G) L I a Q f k g₀ t₀ (Head b) g t i).0 ((graph_realised M L a G f k g₀ t₀ b g t).0 w.0), i)),
    (λ w. ((graph_realised M L a G f k g₀ t₀ b g t).1 ((same_realised M (supergraph M G) L I a Q f k g₀ t₀ (Head b) g t w.1).1 w.0), followed_in M L a f t w.1)),
  )

  module _ (l : IsTrue a.loose) (C : Kinds (masked M L a) (masked_graphs M L a G)) (F : Exits M) (W : ExitsApart M L F G) (X : Entry (masked M L a) (masked_graphs M L a G) → Type 0)
      (least : IsLeastLog (masked M L a) (masked_origins M L a) (kept M a) (masked_graphs M L a G) C X) where
    -- the log has exactly the realised tuples of what is followed, in a frame of either kind
    pub masked_log_entries : (f : M.Fn) (g₀ : M.Global) (t₀ : Fact M) (b : G.Block) (g : M.Global) (t : Fact M)
        → among (masked M L a) (masked_graphs M L a G) X f g₀ t₀ b g t ↔ (InSome M L G f g₀ t₀ b g t × IsFollowed M (kept M a) f t)
    masked_log_entries f g₀ t₀ b g t =
        let x = engine_entries (masked M L a) (masked_origins M L a) (kept M a) (masked_graphs M L a G) C (masked_exits M L a F) (masked_apart M L a G F W l) (masked_local M L a) (graphs_closed M L a G) X least f g₀ t₀ b g t in (
          (λ w. let v = x.0 w in let u = (masked_graph_realised f v.0.0 g₀ t₀ b g t).0 (v.0.1, v.1) in ((v.0.0, u.0), u.1)),
          (λ w. let u = (masked_graph_realised f w.0.0 g₀ t₀ b g t).1 (w.0.1, w.1) in x.1 ((w.0.0, u.0), u.1)),
        )
