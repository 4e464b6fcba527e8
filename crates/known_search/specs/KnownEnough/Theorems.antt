-- The theorems of this crate as statements about all numbered checkers and programs, which contracts can name.
use Rattle.std.specs.Prelude.{◌↔◌, ℕ, Bool, IsTrue, Option, List}
use Rattle.path_theory.specs.FlatPaths.{InErrors}
use Rattle.path_theory.specs.Numbered.{Checker, Program, BlockProgram, model, origins_of, supergraph_of, graphs_of, block_supergraph_of, objects_of}
use Rattle.path_theory.specs.TabulationRules.LeastSets.{HasNumbers}
use Rattle.known_search.specs.Closed.{IsClosed}
use Rattle.known_search.specs.KnownEnough.Described.{Describes, AreFollowed}
use Rattle.masked_paths.specs.Met.{at_events}
use Rattle.masked_paths.specs.Theorems.{IsEnoughTable}
use Rattle.masked_paths.specs.MaskedTabulation.Theorems.{MaskedAnalysis, Edge, IsTabulated, LogShows}

-- a checker, the links of a program, and what was found over them, as tables
pub record Search : Type 0 where
  pub checker : Checker
  pub at : ℕ → Option ℕ
  pub is_bound : ℕ → ℕ → Bool
  pub moves : ℕ → ℕ → ℕ → Bool
  pub enters : ℕ → ℕ → ℕ → ℕ → ℕ → Bool
  pub hands : ℕ → ℕ → ℕ → ℕ → ℕ → Bool
  pub found : ℕ → Option ℕ → ℕ → Bool
  pub closed : IsClosed (λ f o. IsTrue (is_bound f o)) (λ f b o. IsTrue (moves f b o)) (λ k f o h c. IsTrue (enters k f o h c)) (λ k h d f o. IsTrue (hands k h d f o)) (λ f w o. IsTrue (found f w o))
  pub objects : ℕ → ℕ → Bool
  pub followed : AreFollowed (model checker) at (λ f w o. IsTrue (found f w o)) (objects_of checker objects)

abbrev pub FoundObjectsAreEnough : Type 0
FoundObjectsAreEnough = (s : Search) (p : Program)
    → Describes (model s.checker) (supergraph_of s.checker p) (origins_of s.checker) s.at (λ f o. IsTrue (s.is_bound f o)) (λ f b o. IsTrue (s.moves f b o)) (λ k f o h c. IsTrue (s.enters k f o h c)) (λ k h d f o. IsTrue (s.hands k h d f o)) (at_events (model s.checker) (supergraph_of s.checker p))
    → IsEnoughTable s.checker p s.objects

-- an analysis of a program that the links describe, which follows the objects that were found
pub record Analysis : Type 0 where
  pub search : Search
  pub program : BlockProgram
  pub loose : Bool
  pub describes : Describes (model search.checker) (block_supergraph_of search.checker program) (origins_of search.checker) search.at (λ f o. IsTrue (search.is_bound f o)) (λ f b o. IsTrue (search.moves f b o)) (λ k f o h c. IsTrue (search.enters k f o h c)) (λ k h d f o. IsTrue (search.hands k h d f o)) (at_events (model search.checker) (block_supergraph_of search.checker program))
  pub numbers : HasNumbers (model search.checker) (graphs_of search.checker program) search.at

abbrev pub masked : Analysis → MaskedAnalysis
masked a = record { checker = a.search.checker; program = a.program; objects = a.search.objects; loose = a.loose; function = a.search.at; numbers = a.numbers }

abbrev pub FoundObjectsReport : Type 0
FoundObjectsReport = (a : Analysis) (log : List (Edge (masked a))) → IsTabulated (masked a) log
    → (r : ℕ) → LogShows (masked a) log r ↔ InErrors (model a.search.checker) (block_supergraph_of a.search.checker a.program) r
