-- The theorems on met global states as statements about all numbered checkers and programs, which contracts can name.
-- The lemmas in `proofs/` have them for any model; each contract of `src/met_states.rt` names one.
use Rattle.std.specs.Prelude.{ℕ, Bool, false, IsTrue, Option, List, ◌↔◌}
use Rattle.path_theory.specs.Walks.{HasTraces}
use Rattle.path_theory.specs.Callers.{Callers}
use Rattle.path_theory.specs.Paths.{Path}
use Rattle.path_theory.specs.FlowGraphs.{Head}
use Rattle.path_theory.specs.TabulationRules.LeastSets.{HasNumbers}
use Rattle.path_theory.specs.Numbered.{Checker, Program, BlockProgram, model, origins_of, supergraph_of, graphs_of, block_supergraph_of, objects_of}
use Rattle.masked_paths.specs.Met.{MetStates, CoversMet, BlockStates, CoversBlocks, MetInBlocks, Comes}
use Rattle.masked_paths.specs.Matched.{ClosedUnderMet, CoversWhereMet}
use Rattle.masked_paths.specs.SameGlobals.{MaskedGlobal, UnmaskedGlobal}
use Rattle.masked_paths.specs.Theorems.{mask_of, masked_model, masked_supergraph_of, matched_of, IsEnoughTable, IsEnoughInBlocks}
use Rattle.masked_paths.specs.MaskedTabulation.Theorems.{MaskedAnalysis, Edge, IsTabulated, StandsInLog}

-- the met states of a table, by function, event, kind of frame and global state
abbrev pub met_of : (c : Checker) → (ℕ → ℕ → Bool → ℕ → Bool) → MetStates (model c)
met_of c r f e k g = IsTrue (r f e k g)

-- what can be known by rules that bind where a path meets their global state, is enough
abbrev pub MetObjectsAreEnough : Type 0
MetObjectsAreEnough = (c : Checker) (p : Program) (r : ℕ → ℕ → Bool → ℕ → Bool) (m : ℕ → Option ℕ → ℕ → Bool) (a : ℕ → ℕ → Bool)
    → CoversMet (model c) (supergraph_of c p) (met_of c r)
    → ClosedUnderMet (model c) (supergraph_of c p) (origins_of c) (met_of c r) (matched_of c m)
    → CoversWhereMet (model c) (supergraph_of c p) (origins_of c) (met_of c r) (matched_of c m) (objects_of c a)
    → IsEnoughTable c p a

-- whatever a mask follows, each path has one under it that comes to the same place with the same global state, and the other way
-- round
pub record HaveSameGlobals (c : Checker) (p : Program) (a : ℕ → ℕ → Bool) (loose : Bool) : Type 0 where
  pub masks : (f : ℕ) (is_root : Bool) (place : ℕ) (below : Callers (model c) (supergraph_of c p))
      → (path : Path (model c) (supergraph_of c p) f is_root place below)
      → MaskedGlobal (model c) (origins_of c) (mask_of c a loose) (supergraph_of c p) path
  pub unmasks : (f : ℕ) (is_root : Bool) (place : ℕ)
      → (below : Callers (masked_model c a loose) (masked_supergraph_of c a loose p))
      → (path : Path (masked_model c a loose) (masked_supergraph_of c a loose p) f is_root place below)
      → UnmaskedGlobal (model c) (origins_of c) (mask_of c a loose) (supergraph_of c p) path

abbrev pub MasksKeepGlobals : Type 0
MasksKeepGlobals = (c : Checker) (p : Program) (a : ℕ → ℕ → Bool) (loose : Bool) → HaveSameGlobals c p a loose

-- the states of a table at the first places of blocks, by function, kind of frame, block and global state
abbrev pub stands_of : (c : Checker) (p : BlockProgram) → (ℕ → Bool → ℕ → ℕ → Bool) → BlockStates (model c) (graphs_of c p)
stands_of c p s f k b g = IsTrue (s f k b g)

-- what is met at the first places of blocks gives what is met at each event
abbrev pub BlocksCoverEvents : Type 0
BlocksCoverEvents = (c : Checker) (p : BlockProgram) (s : ℕ → Bool → ℕ → ℕ → Bool)
    → CoversBlocks (model c) (graphs_of c p) (stands_of c p s)
    → CoversMet (model c) (block_supergraph_of c p) (MetInBlocks (model c) (graphs_of c p) (stands_of c p s))

-- what covers the met states of a program covers those of each whose traces it has
abbrev pub TracesCoverEvents : Type 0
TracesCoverEvents = (c : Checker) (p q : Program) (r : ℕ → ℕ → Bool → ℕ → Bool)
    → HasTraces (model c) (supergraph_of c p) (supergraph_of c q)
    → CoversMet (model c) (supergraph_of c q) (met_of c r)
    → CoversMet (model c) (supergraph_of c p) (met_of c r)

-- whatever a mask follows, the least list of path edges under it stands at the first places of blocks with exactly the global
-- states with which paths come there
abbrev pub EdgesStandWherePathsCome : Type 0
EdgesStandWherePathsCome = (s : MaskedAnalysis) (log : List (Edge s)) → IsTabulated s log
    → (f : ℕ) (is_root : Bool) (b g : ℕ)
    → StandsInLog s log f is_root b g ↔ Comes (model s.checker) (block_supergraph_of s.checker s.program) f is_root (Head b) g

-- the analysis of a program that follows no object
abbrev pub following_none : (c : Checker) (p : BlockProgram) (function : ℕ → Option ℕ) → HasNumbers (model c) (graphs_of c p) function
    → MaskedAnalysis
following_none c p function numbers = record { checker = c; program = p; objects = λ f o. false; loose = false; function = function; numbers = numbers }

-- the global states that paths meet at events, by its path edges
abbrev pub met_in_log : (s : MaskedAnalysis) → List (Edge s) → MetStates (model s.checker)
met_in_log s log = MetInBlocks (model s.checker) (graphs_of s.checker s.program) (StandsInLog s log)

abbrev pub EdgesCoverEvents : Type 0
EdgesCoverEvents = (c : Checker) (p : BlockProgram) (function : ℕ → Option ℕ) (numbers : HasNumbers (model c) (graphs_of c p) function)
    → (log : List (Edge (following_none c p function numbers))) → IsTabulated (following_none c p function numbers) log
    → CoversMet (model c) (block_supergraph_of c p) (met_in_log (following_none c p function numbers) log)

-- so the objects that can be known by rules that bind where they say are enough
abbrev pub MetObjectsOfEdgesAreEnough : Type 0
MetObjectsOfEdgesAreEnough = (c : Checker) (p : BlockProgram) (function : ℕ → Option ℕ) (numbers : HasNumbers (model c) (graphs_of c p) function)
    → (log : List (Edge (following_none c p function numbers))) → IsTabulated (following_none c p function numbers) log
    → (m : ℕ → Option ℕ → ℕ → Bool) (a : ℕ → ℕ → Bool)
    → ClosedUnderMet (model c) (block_supergraph_of c p) (origins_of c) (met_in_log (following_none c p function numbers) log) (matched_of c m)
    → CoversWhereMet (model c) (block_supergraph_of c p) (origins_of c) (met_in_log (following_none c p function numbers) log) (matched_of c m) (objects_of c a)
    → IsEnoughInBlocks c p a
