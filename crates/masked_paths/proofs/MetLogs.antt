-- The least list of path edges of a numbered analysis, whatever it follows: the global states with which it stands at blocks.
use Rattle.std.proofs.Common.{ℕ, Bool, List, Contains, ◌↔◌, subst}
use Rattle.path_theory.specs.FlowGraphs.{Head}
use Rattle.path_theory.specs.Numbered.{model, origins_of, graphs_of, block_supergraph_of, objects_of}
use Rattle.path_theory.proofs.TabulationRules.Closed.{least_set}
use Rattle.masked_paths.specs.Met.{CoversMet, CoversBlocks, Comes}
use Rattle.masked_paths.specs.Theorems.{mask_of, masked_model, masked_origins_of, masked_graphs_of}
use Rattle.masked_paths.specs.MaskedTabulation.Theorems.{MaskedAnalysis, Edge, IsTabulated, StandsInLog}
use Rattle.masked_paths.specs.MetTheorems.{met_in_log}
use Rattle.masked_paths.proofs.MaskedTabulation.MetEdges.{edges_stand, edges_only_stand, edges_cover_met}

module _ (s : MaskedAnalysis) (log : List (Edge s)) (least : IsTabulated s log) where
  -- a path's global state, said of paths to the head of a block
  of_path : (S : ℕ → Bool → ℕ → ℕ → Type 0) → CoversBlocks (model s.checker) (graphs_of s.checker s.program) S
      → (f : ℕ) (k : Bool) (b g : ℕ) → Comes (model s.checker) (block_supergraph_of s.checker s.program) f k (Head b) g → S f k b g
  of_path S C f k b g w = subst (S f k b) w.global (C.stands w.path)

  pub log_stands : (f : ℕ) (k : Bool) (b g : ℕ)
      → StandsInLog s log f k b g ↔ Comes (model s.checker) (block_supergraph_of s.checker s.program) f k (Head b) g
  log_stands f k b g =
      let c = least_set (masked_model s.checker s.objects s.loose) (masked_origins_of s.checker s.objects s.loose) (objects_of s.checker s.objects) (masked_graphs_of s.checker s.objects s.loose s.program) s.function log least in (
        edges_only_stand (model s.checker) (origins_of s.checker) (mask_of s.checker s.objects s.loose) (graphs_of s.checker s.program) s.function s.numbers (Contains log) c f k b g,
        of_path (StandsInLog s log) (edges_stand (model s.checker) (origins_of s.checker) (mask_of s.checker s.objects s.loose) (graphs_of s.checker s.program) s.function s.numbers (Contains log) c.closed) f k b g,
      )

  pub log_covers_met : CoversMet (model s.checker) (block_supergraph_of s.checker s.program) (met_in_log s log)
  log_covers_met =
      let c = least_set (masked_model s.checker s.objects s.loose) (masked_origins_of s.checker s.objects s.loose) (objects_of s.checker s.objects) (masked_graphs_of s.checker s.objects s.loose s.program) s.function log least in
      edges_cover_met (model s.checker) (origins_of s.checker) (mask_of s.checker s.objects s.loose) (graphs_of s.checker s.program) s.function s.numbers (Contains log) c.closed
