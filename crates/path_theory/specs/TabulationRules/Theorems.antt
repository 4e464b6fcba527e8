-- These theorems as statements about all numbered checkers and programs, which contracts can name.
-- The lemmas in `proofs/` have them for any model; each contract of `src/theorems.rt` names one.
use Rattle.std.specs.Prelude.{ℕ, Bool, Option, List, Contains, ◌↔◌}
use Rattle.path_theory.specs.FlatPaths.{InErrors}
use Rattle.path_theory.specs.Facts.{Fact, IsFollowed}
use Rattle.path_theory.specs.Realised.{Realised}
use Rattle.path_theory.specs.FlowGraphs.{Head}
use Rattle.path_theory.specs.Numbered.{Checker, BlockProgram, model, origins_of, graphs_of, block_supergraph_of, objects_of}
use Rattle.path_theory.specs.Theorems.{IsClosedInBlocks}
use Rattle.path_theory.specs.TabulationRules.Rules.{EdgeIn, Seen, ShowsReport}
use Rattle.path_theory.specs.TabulationRules.LeastSets.{HasNumbers, IsLeastLog}

-- a checker and a program, the objects that are followed, and the functions that have numbers
pub record Analysis : Type 0 where
  pub checker : Checker
  pub program : BlockProgram
  pub objects : ℕ → ℕ → Bool
  pub function : ℕ → Option ℕ
  pub closed : IsClosedInBlocks checker program objects
  pub numbers : HasNumbers (model checker) (graphs_of checker program) function

abbrev pub Edge : Analysis → Type 0
Edge s = EdgeIn (model s.checker) (origins_of s.checker) (objects_of s.checker s.objects) (graphs_of s.checker s.program) s.function

-- the list has what follows by the rules from its members, and nothing else
abbrev pub IsTabulated : (s : Analysis) → List (Edge s) → Type 0
IsTabulated s = IsLeastLog (model s.checker) (origins_of s.checker) (objects_of s.checker s.objects) (graphs_of s.checker s.program) s.function

-- an edge of the list shows the report
abbrev pub LogShows : (s : Analysis) → List (Edge s) → ℕ → Type 0
LogShows s log r =
    (e : Edge s) × Contains log e
    × ShowsReport (model s.checker) (origins_of s.checker) (objects_of s.checker s.objects) (graphs_of s.checker s.program) s.function e r

-- the reports that the list shows are exactly those among the errors of some path
abbrev pub TabulatedReportsAreThoseOfPaths : Type 0
TabulatedReportsAreThoseOfPaths = (s : Analysis) (log : List (Edge s)) → IsTabulated s log
    → (r : ℕ) → LogShows s log r ↔ InErrors (model s.checker) (block_supergraph_of s.checker s.program) r

abbrev pub InLog : (s : Analysis) → List (Edge s) → ℕ → Bool → ℕ → Fact (model s.checker) → ℕ → ℕ → Fact (model s.checker) → Type 0
InLog s log =
    Seen (model s.checker) (origins_of s.checker) (objects_of s.checker s.objects) (graphs_of s.checker s.program) s.function (Contains log)

-- its edges are exactly the realised tuples of followed objects
abbrev pub TabulatedEdgesAreRealised : Type 0
TabulatedEdgesAreRealised = (s : Analysis) (log : List (Edge s)) → IsTabulated s log
    → (f : ℕ) (is_root : Bool) (g₀ : ℕ) (t₀ : Fact (model s.checker)) (b g : ℕ) (t : Fact (model s.checker))
    → InLog s log f is_root g₀ t₀ b g t
    ↔ (Realised (model s.checker) (block_supergraph_of s.checker s.program) (origins_of s.checker) f is_root g₀ t₀ (Head b) g t
    × IsFollowed (model s.checker) (objects_of s.checker s.objects) f t)
