-- Path edges under a mask stand at the first places of blocks with exactly the global states with which paths come there, whatever
-- the mask follows: an edge without object is enough. So they cover what is met at events.
use Rattle.std.proofs.Common.{◌∙◌, ℕ, Bool, Option, refl, sym, ap}
use Rattle.path_theory.specs.Model.{Model}
use Rattle.path_theory.specs.Supergraph.{Supergraph}
use Rattle.path_theory.specs.Callers.{Callers}
use Rattle.path_theory.specs.Paths.{Path, after}
use Rattle.path_theory.specs.Origins.{Origins}
use Rattle.path_theory.specs.OpenFrames.{at_entry}
use Rattle.path_theory.specs.Facts.{NoObject, Fact}
use Rattle.path_theory.specs.Realised.{Realised}
use Rattle.path_theory.specs.FlowGraphs.{FlowGraphs, Head, supergraph}
use Rattle.path_theory.proofs.Entries.{path_edge}
use Rattle.path_theory.proofs.Saturated.{least}
use Rattle.path_theory.proofs.Splitting.{split, flat}
use Rattle.path_theory.specs.TabulationRules.Rules.{EdgeIn, Seen}
use Rattle.path_theory.specs.TabulationRules.LeastSets.{HasNumbers, IsClosedUnder, IsLeastSet}
use Rattle.path_theory.proofs.TabulationRules.Closed.{saturated}
use Rattle.path_theory.proofs.TabulationRules.Reports.{realised}
use Rattle.masked_paths.specs.Masked.{Mask, kept, masked, masked_origins, masked_supergraph, masked_graphs}
use Rattle.masked_paths.specs.Met.{CoversMet, CoversBlocks, MetInBlocks, Comes}
use Rattle.masked_paths.specs.MaskedTabulation.Stands.{StandsAt}
use Rattle.masked_paths.proofs.MaskedLaws.{masked_local, graphs_closed}
use Rattle.masked_paths.proofs.MaskedRuns.{run_in, frames_in}
use Rattle.masked_paths.proofs.MaskedGraphs.{graph_realised}
use Rattle.masked_paths.proofs.SameGlobals.{same_global_behind, unmasked_global}
use Rattle.masked_paths.proofs.MetBlocks.{blocks_cover_met}
use Rattle.masked_paths.proofs.MaskedTabulation.MaskedReports.{masked_numbers}

module _ (M : Model) (L : Origins M) (a : Mask M) (G : FlowGraphs M) where
  abbrev N : Model
  N = masked M L a

  abbrev J : Supergraph N
  J = masked_supergraph M L a (supergraph M G)

  -- a path to the first place of a block, as a tuple without object under the mask
  record Bare (f : M.Fn) (k : Bool) (b : G.Block) (g : M.Global) : Type 0 where
    entry : M.Global
    tuple : Realised N J (masked_origins M L a) f k entry NoObject (Head b) g NoObject

  bare : {f : M.Fn} {k : Bool} {b : G.Block} {c : Callers M (supergraph M G)} (P : Path M (supergraph M G) f k (Head b) c)
      → Bare f k b (after M (supergraph M G) P).global
  bare P =
      let s = split M (supergraph M G) P in
      record {
        entry = (at_entry N J (frames_in M L a (supergraph M G) s.opened)).global;
        tuple = record {
          below = _;
          opened = frames_in M L a (supergraph M G) s.opened;
          run = run_in M L a (supergraph M G) s.run;
          entry = refl;
          global = same_global_behind M L a (supergraph M G) s.opened s.run ∙ ap (λ n. n.global) (sym s.state);
          tracked = refl;
        };
      }

  -- a tuple under the mask, as a path without it
  comes : {f : M.Fn} {k : Bool} {g₀ g : M.Global} {t₀ t : Fact M} {b : G.Block}
      → Realised N J (masked_origins M L a) f k g₀ t₀ (Head b) g t → Comes M (supergraph M G) f k (Head b) g
  comes w =
      let v = flat N J w.opened w.run in
      let u = unmasked_global M L a (supergraph M G) v.path in
      record { below = u.below; path = u.path; global = sym u.global ∙ ap (λ n. n.global) v.state ∙ w.global }

module _ (M : Model) (L : Origins M) (a : Mask M) (G : FlowGraphs M) (function : ℕ → Option M.Fn) (H : HasNumbers M G function)
    (X : EdgeIn (masked M L a) (masked_origins M L a) (kept M a) (masked_graphs M L a G) function → Type 0) where
  abbrev Stands : M.Fn → Bool → G.Block → M.Global → Type 0
  Stands = StandsAt (masked M L a) (masked_origins M L a) (kept M a) (masked_graphs M L a G) function X

  module _ (C : IsClosedUnder (masked M L a) (masked_origins M L a) (kept M a) (masked_graphs M L a G) function X) where
    seen : (f : M.Fn) (k : Bool) (g₀ : M.Global) (b : G.Block) (g : M.Global)
        → Realised (masked M L a) (masked_supergraph M L a (supergraph M G)) (masked_origins M L a) f k g₀ NoObject (Head b) g NoObject
        → Seen (masked M L a) (masked_origins M L a) (kept M a) (masked_graphs M L a G) function X f k g₀ NoObject b g NoObject
    seen f k g₀ b g w =
        least (masked M L a) (masked_origins M L a) (kept M a) (masked_graphs M L a G) (Seen (masked M L a) (masked_origins M L a) (kept M a) (masked_graphs M L a G) function X)
        (saturated (masked M L a) (masked_origins M L a) (kept M a) (masked_graphs M L a G) function X (masked_numbers M L a G function H) C)
        (path_edge (masked M L a) (supergraph (masked M L a) (masked_graphs M L a G)) (masked_origins M L a) (masked_local M L a) (kept M a) (graphs_closed M L a G) NoObject
        ((graph_realised M L a G f k g₀ NoObject b g NoObject).1 w) tt)

    -- a set that lacks nothing that follows has an edge with the global state of each path
    pub edges_stand : CoversBlocks M G Stands
    edges_stand = record {
      stands = λ {f = f} {k = k} {b = b} P.
          let w = bare M L a G P in
          record { entry = w.entry; entry_fact = NoObject; fact = NoObject; edge = seen f k w.entry b (after M (supergraph M G) P).global w.tuple };
    }

    -- so what is met at events is met behind its edges
    pub edges_cover_met : CoversMet M (supergraph M G) (MetInBlocks M G Stands)
    edges_cover_met = blocks_cover_met M G Stands edges_stand

  module _ (S : IsLeastSet (masked M L a) (masked_origins M L a) (kept M a) (masked_graphs M L a G) function X) where
    -- and the least set has no others
    pub edges_only_stand : (f : M.Fn) (k : Bool) (b : G.Block) (g : M.Global) → Stands f k b g → Comes M (supergraph M G) f k (Head b) g
    edges_only_stand f k b g w =
        let v = (realised (masked M L a) (masked_origins M L a) (kept M a) (masked_graphs M L a G) function X (masked_numbers M L a G function H) S (masked_local M L a) (graphs_closed M L a G) f k w.entry w.entry_fact b g w.fact).0 w.edge in
        comes M L a G ((graph_realised M L a G f k w.entry w.entry_fact b g w.fact).0 v.0)
