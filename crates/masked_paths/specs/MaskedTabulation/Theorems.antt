-- The theorems of this crate as statements about all numbered checkers and programs, which contracts can name.
use Rattle.std.specs.Prelude.{ℕ, Bool, Option, List, Contains, ◌↔◌}
use Rattle.path_theory.specs.FlatPaths.{InErrors}
use Rattle.path_theory.specs.Facts.{Fact, IsFollowed}
use Rattle.path_theory.specs.Realised.{Realised}
use Rattle.path_theory.specs.FlowGraphs.{Head}
use Rattle.path_theory.specs.Numbered.{Checker, BlockProgram, model, origins_of, graphs_of, block_supergraph_of, objects_of}
use Rattle.path_theory.specs.Theorems.{IsClosedInBlocks}
use Rattle.path_theory.specs.TabulationRules.Rules.{EdgeIn, Seen, ShowsReport}
use Rattle.path_theory.specs.TabulationRules.LeastSets.{HasNumbers, IsLeastLog}
use Rattle.masked_paths.specs.MaskedTabulation.Stands.{StandsAt}
use Rattle.masked_paths.specs.Theorems.{masked_model, masked_origins_of, masked_graphs_of, IsEnoughInBlocks}

-- a checker and a program, the objects that are followed, in a strict mask or a loose one, and the functions that have numbers
pub record MaskedAnalysis : Type 0 where
  pub checker : Checker
  pub program : BlockProgram
  pub objects : ℕ → ℕ → Bool
  pub loose : Bool
  pub function : ℕ → Option ℕ
  pub numbers : HasNumbers (model checker) (graphs_of checker program) function

module _ (s : MaskedAnalysis) where
  abbrev pub Edge : Type 0
  Edge = EdgeIn (masked_model s.checker s.objects s.loose) (masked_origins_of s.checker s.objects s.loose) (objects_of s.checker s.objects) (masked_graphs_of s.checker s.objects s.loose s.program) s.function

  -- the list has what follows from its members by the rules under the mask, and nothing else
  abbrev pub IsTabulated : List Edge → Type 0
  IsTabulated = IsLeastLog (masked_model s.checker s.objects s.loose) (masked_origins_of s.checker s.objects s.loose) (objects_of s.checker s.objects) (masked_graphs_of s.checker s.objects s.loose s.program) s.function

  -- an edge of the list shows the report
  abbrev pub LogShows : List Edge → ℕ → Type 0
  LogShows log r =
      (e : Edge) × Contains log e
      × ShowsReport (masked_model s.checker s.objects s.loose) (masked_origins_of s.checker s.objects s.loose) (objects_of s.checker s.objects) (masked_graphs_of s.checker s.objects s.loose s.program) s.function e r

  abbrev pub InLog : List Edge → ℕ → Bool → ℕ → Fact (model s.checker) → ℕ → ℕ → Fact (model s.checker) → Type 0
  InLog log = Seen (masked_model s.checker s.objects s.loose) (masked_origins_of s.checker s.objects s.loose) (objects_of s.checker s.objects) (masked_graphs_of s.checker s.objects s.loose s.program) s.function (Contains log)

  -- an edge of the list stands at the first place of a block with this global state
  abbrev pub StandsInLog : List Edge → ℕ → Bool → ℕ → ℕ → Type 0
  StandsInLog log = StandsAt (masked_model s.checker s.objects s.loose) (masked_origins_of s.checker s.objects s.loose) (objects_of s.checker s.objects) (masked_graphs_of s.checker s.objects s.loose s.program) s.function (Contains log)

-- where the objects are enough, the reports that the list shows are exactly those among the errors of some path
abbrev pub MaskedReportsAreThoseOfPaths : Type 0
MaskedReportsAreThoseOfPaths = (s : MaskedAnalysis) → IsEnoughInBlocks s.checker s.program s.objects → (log : List (Edge s)) → IsTabulated s log
    → (r : ℕ) → LogShows s log r ↔ InErrors (model s.checker) (block_supergraph_of s.checker s.program) r

-- where they are closed, its edges are exactly the realised tuples of these
abbrev pub MaskedEdgesAreRealised : Type 0
MaskedEdgesAreRealised = (s : MaskedAnalysis) → IsClosedInBlocks s.checker s.program s.objects → (log : List (Edge s)) → IsTabulated s log
    → (f : ℕ) (is_root : Bool) (g₀ : ℕ) (t₀ : Fact (model s.checker)) (b g : ℕ) (t : Fact (model s.checker))
    → InLog s log f is_root g₀ t₀ b g t
    ↔ (Realised (model s.checker) (block_supergraph_of s.checker s.program) (origins_of s.checker) f is_root g₀ t₀ (Head b) g t
    × IsFollowed (model s.checker) (objects_of s.checker s.objects) f t)
