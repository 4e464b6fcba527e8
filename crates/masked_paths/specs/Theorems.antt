-- The theorems of this crate as statements about all numbered checkers and programs, which contracts can name.
-- The lemmas in `proofs/` have them for any model; each contract of `src/theorems.rt` names one.
use Rattle.std.specs.Prelude.{◌⊎◌, ◌≡◌, ◌↔◌, ℕ, Bool, true, false, IsTrue, Option, List, Contains}
use Rattle.path_theory.specs.Model.{Model}
use Rattle.path_theory.specs.Supergraph.{Supergraph}
use Rattle.path_theory.specs.Origins.{Origins}
use Rattle.path_theory.specs.Callers.{Callers}
use Rattle.path_theory.specs.Paths.{Path}
use Rattle.path_theory.specs.PathLengths.{ReportedIn}
use Rattle.path_theory.specs.FlatPaths.{InErrors}
use Rattle.path_theory.specs.Facts.{Fact, IsFollowed}
use Rattle.path_theory.specs.Flows.{CallFlow, ReturnFlow}
use Rattle.path_theory.specs.BlockEdges.{Crosses, Shows}
use Rattle.path_theory.specs.Realised.{Realised}
use Rattle.path_theory.specs.Tabulation.{Found}
use Rattle.path_theory.specs.FrameEdges.{FoundIn}
use Rattle.path_theory.specs.FrameEnds.{IgnoresKind, EndsQuietly, ExitsApart}
use Rattle.path_theory.specs.Merged.{Kinds, Shown}
use Rattle.path_theory.specs.Entries.{Entry, among, IsLeastLog}
use Rattle.path_theory.specs.FlowGraphs.{FlowGraphs, Head, supergraph}
use Rattle.path_theory.specs.Numbered.{Checker, Program, BlockProgram, model, origins_of, supergraph_of, graphs_of, block_supergraph_of, objects_of, IsMarked, IsUnmarked, exits_of}
use Rattle.path_theory.specs.Theorems.{IsClosedTable, IsClosedInBlocks}
use Rattle.masked_paths.specs.Masked.{Mask, masked, masked_origins, masked_supergraph, masked_graphs, masked_events}
use Rattle.masked_paths.specs.Enough.{IsEnough}
use Rattle.masked_paths.specs.Matched.{Matched, ClosedUnderMatched, Covers, ClosedOverBlocks, CoversOverBlocks}
use Rattle.masked_paths.specs.States.{Masked, Unmasked}
use Rattle.masked_paths.specs.Within.{origins_within}

-- the mask of a table
abbrev pub mask_of : (c : Checker) → (ℕ → ℕ → Bool) → Bool → Mask (model c)
mask_of c a loose = record { follows = a; loose = loose }

-- the checker with it, and programs under that
abbrev pub masked_model : Checker → (ℕ → ℕ → Bool) → Bool → Model
masked_model c a loose = masked (model c) (origins_of c) (mask_of c a loose)

abbrev pub masked_origins_of : (c : Checker) (a : ℕ → ℕ → Bool) (loose : Bool) → Origins (masked_model c a loose)
masked_origins_of c a loose = masked_origins (model c) (origins_of c) (mask_of c a loose)

abbrev pub masked_supergraph_of : (c : Checker) (a : ℕ → ℕ → Bool) (loose : Bool) → Program → Supergraph (masked_model c a loose)
masked_supergraph_of c a loose p = masked_supergraph (model c) (origins_of c) (mask_of c a loose) (supergraph_of c p)

abbrev pub masked_graphs_of : (c : Checker) (a : ℕ → ℕ → Bool) (loose : Bool) → BlockProgram → FlowGraphs (masked_model c a loose)
masked_graphs_of c a loose p = masked_graphs (model c) (origins_of c) (mask_of c a loose) (graphs_of c p)

-- it is enough to follow what the table marks
abbrev pub IsEnoughTable : Checker → Program → (ℕ → ℕ → Bool) → Type 0
IsEnoughTable c p a = IsEnough (model c) (supergraph_of c p) (origins_of c) (objects_of c a)

-- the same in blocks
abbrev pub IsEnoughInBlocks : Checker → BlockProgram → (ℕ → ℕ → Bool) → Type 0
IsEnoughInBlocks c p a = IsEnough (model c) (block_supergraph_of c p) (origins_of c) (objects_of c a)

-- what a table says can be known, of an object by one at the entry or by none
abbrev pub matched_of : (c : Checker) → (ℕ → Option ℕ → ℕ → Bool) → Matched (model c)
matched_of c m f w o = IsTrue (m f w o)

-- whatever covers a family that is closed under matched calls and returns is enough
abbrev pub MatchedObjectsAreEnough : Type 0
MatchedObjectsAreEnough = (c : Checker) (p : Program) (m : ℕ → Option ℕ → ℕ → Bool) (a : ℕ → ℕ → Bool)
    → ClosedUnderMatched (model c) (supergraph_of c p) (origins_of c) (matched_of c m)
    → Covers (model c) (supergraph_of c p) (origins_of c) (matched_of c m) (objects_of c a)
    → IsEnoughTable c p a

-- the same of one that is closed over the blocks of a program
abbrev pub MatchedOverBlocksAreEnough : Type 0
MatchedOverBlocksAreEnough = (c : Checker) (p : BlockProgram) (m : ℕ → Option ℕ → ℕ → Bool) (a : ℕ → ℕ → Bool)
    → ClosedOverBlocks (model c) (graphs_of c p) (origins_of c) (matched_of c m)
    → CoversOverBlocks (model c) (graphs_of c p) (origins_of c) (matched_of c m) (objects_of c a)
    → IsEnoughInBlocks c p a

-- so is a closed one
abbrev pub ClosedObjectsAreEnough : Type 0
ClosedObjectsAreEnough = (c : Checker) (p : Program) (a : ℕ → ℕ → Bool) → IsClosedTable c p a → IsEnoughTable c p a

-- the checker with a mask, and a program under it
module _ (c : Checker) (p : Program) (a : ℕ → ℕ → Bool) (loose : Bool) where
  -- each path without the mask has one with it that ends in the same state, and the other way round
  pub record HaveSameStates : Type 0 where
    pub masks : (f : ℕ) (is_root : Bool) (place : ℕ) (below : Callers (model c) (supergraph_of c p))
        → (path : Path (model c) (supergraph_of c p) f is_root place below)
        → Masked (model c) (origins_of c) (mask_of c a loose) (supergraph_of c p) path
    pub unmasks : (f : ℕ) (is_root : Bool) (place : ℕ)
        → (below : Callers (masked_model c a loose) (masked_supergraph_of c a loose p))
        → (path : Path (masked_model c a loose) (masked_supergraph_of c a loose p) f is_root place below)
        → Unmasked (model c) (origins_of c) (mask_of c a loose) (supergraph_of c p) path

  -- the same reports
  abbrev pub HaveSameReports : Type 0
  HaveSameReports = (r : ℕ)
      → InErrors (masked_model c a loose) (masked_supergraph_of c a loose p) r
      ↔ InErrors (model c) (supergraph_of c p) r

  -- in the same numbers of steps
  abbrev pub HaveSameLengths : Type 0
  HaveSameLengths = (r n : ℕ)
      → ReportedIn (masked_model c a loose) (masked_supergraph_of c a loose p) r n
      ↔ ReportedIn (model c) (supergraph_of c p) r n

  -- of what is followed the same tuples are realised
  abbrev pub RealiseTheSame : Type 0
  RealiseTheSame = (f : ℕ) (is_root : Bool) (g₀ : ℕ) (t₀ : Fact (model c)) (place g : ℕ) (t : Fact (model c))
      → IsFollowed (model c) (objects_of c a) f t
      → Realised (masked_model c a loose) (masked_supergraph_of c a loose p) (masked_origins_of c a loose) f is_root g₀ t₀ place g t
      ↔ Realised (model c) (supergraph_of c p) (origins_of c) f is_root g₀ t₀ place g t

abbrev pub EnoughHasSameStates : Type 0
EnoughHasSameStates = (c : Checker) (p : Program) (a : ℕ → ℕ → Bool) (loose : Bool) → IsEnoughTable c p a → HaveSameStates c p a loose

abbrev pub EnoughHasSameReports : Type 0
EnoughHasSameReports = (c : Checker) (p : Program) (a : ℕ → ℕ → Bool) (loose : Bool) → IsEnoughTable c p a → HaveSameReports c p a loose

abbrev pub EnoughHasSameLengths : Type 0
EnoughHasSameLengths = (c : Checker) (p : Program) (a : ℕ → ℕ → Bool) (loose : Bool) → IsEnoughTable c p a → HaveSameLengths c p a loose

abbrev pub ClosedRealisesTheSame : Type 0
ClosedRealisesTheSame = (c : Checker) (p : Program) (a : ℕ → ℕ → Bool) (loose : Bool) → IsClosedTable c p a → RealiseTheSame c p a loose

-- the path edges under the mask show exactly the reports of all paths
abbrev pub MaskedEdgesReport : Type 0
MaskedEdgesReport = (c : Checker) (p : BlockProgram) (a : ℕ → ℕ → Bool) (loose : Bool) → IsEnoughInBlocks c p a
    → (r : ℕ)
    → Found (masked_model c a loose) (supergraph (masked_model c a loose) (masked_graphs_of c a loose p)) (masked_origins_of c a loose) (objects_of c a) r
    ↔ InErrors (model c) (block_supergraph_of c p) r

-- in exactly the numbers of steps in which paths take them
abbrev pub MaskedEdgesReportInSteps : Type 0
MaskedEdgesReportInSteps = (c : Checker) (p : BlockProgram) (a : ℕ → ℕ → Bool) (loose : Bool) → IsEnoughInBlocks c p a
    → (r n : ℕ)
    → FoundIn (masked_model c a loose) (supergraph (masked_model c a loose) (masked_graphs_of c a loose p)) (masked_origins_of c a loose) (objects_of c a) r n
    ↔ ReportedIn (model c) (block_supergraph_of c p) r n

-- a checker and a program in blocks that meet the laws under which contexts of both kinds of frame are merged
pub record MaskedBlocks : Type 0 where
  pub checker : Checker
  pub program : BlockProgram
  pub objects : ℕ → ℕ → Bool
  pub exits : ℕ → Bool
  pub same : IgnoresKind (model checker) (IsUnmarked exits)
  pub quiet : EndsQuietly (model checker) (IsMarked exits)
  pub apart : ExitsApart (model checker) (origins_of checker) (exits_of checker exits same quiet) (graphs_of checker program)
  pub kinds : Kinds (masked_model checker objects true) (masked_graphs_of checker objects true program)

module _ (s : MaskedBlocks) where
  abbrev pub EntryOf : Type 0
  EntryOf = Entry (masked_model s.checker s.objects true) (masked_graphs_of s.checker s.objects true s.program)

  -- the log is the least set of entries under the mask
  abbrev pub IsLeastUnderMask : List EntryOf → Type 0
  IsLeastUnderMask log =
      IsLeastLog (masked_model s.checker s.objects true) (masked_origins_of s.checker s.objects true) (objects_of s.checker s.objects) (masked_graphs_of s.checker s.objects true s.program)
      s.kinds (Contains log)

  abbrev pub IsInLog : List EntryOf → ℕ → ℕ → Fact (model s.checker) → ℕ → ℕ → Fact (model s.checker) → Type 0
  IsInLog log = among (masked_model s.checker s.objects true) (masked_graphs_of s.checker s.objects true s.program) (Contains log)

  -- an entry of the log shows the report
  abbrev pub ShowsUnderMask : List EntryOf → ℕ → Type 0
  ShowsUnderMask log =
      Shown (masked_model s.checker s.objects true) (masked_origins_of s.checker s.objects true) (objects_of s.checker s.objects) (masked_graphs_of s.checker s.objects true s.program)
      s.kinds (IsInLog log)

-- the reports that a least log under the mask shows are exactly those among the errors of some path
abbrev pub MaskedLogReports : Type 0
MaskedLogReports = (s : MaskedBlocks) → IsEnoughInBlocks s.checker s.program s.objects → (log : List (EntryOf s)) → IsLeastUnderMask s log
    → (r : ℕ) → ShowsUnderMask s log r ↔ InErrors (model s.checker) (block_supergraph_of s.checker s.program) r

-- where the objects are closed, its entries are exactly the realised tuples of these, in a frame of either kind
abbrev pub MaskedLogIsRealised : Type 0
MaskedLogIsRealised = (s : MaskedBlocks) → IsClosedInBlocks s.checker s.program s.objects → (log : List (EntryOf s)) → IsLeastUnderMask s log
    → (f g₀ : ℕ) (t₀ : Fact (model s.checker)) (b g : ℕ) (t : Fact (model s.checker))
    → IsInLog s log f g₀ t₀ b g t
    ↔ (((is_root : Bool) × Realised (model s.checker) (block_supergraph_of s.checker s.program) (origins_of s.checker) f is_root g₀ t₀ (Head b) g t)
    × IsFollowed (model s.checker) (objects_of s.checker s.objects) f t)

-- What flows under a mask from what is followed is what flows in the checker with origins within what is followed. Where the mask
-- is strict, that holds of whatever flows.
pub record FlowWithin (c : Checker) (a : ℕ → ℕ → Bool) (loose : Bool) : Type 0 where
  pub crosses : (f h : ℕ) (is_root : Bool) (es : List ℕ) (g i : ℕ) (t u : Fact (model c))
      → (loose ≡ false) ⊎ IsFollowed (model c) (objects_of c a) f t
      → Crosses (masked_model c a loose) (masked_origins_of c a loose) (objects_of c a) f is_root (masked_events (model c) f es) g t i u
      ↔ Crosses (model c) (origins_within (model c) (origins_of c) (mask_of c a loose) f h) (objects_of c a) f is_root es g t i u
  pub shows : (f h : ℕ) (is_root : Bool) (r : ℕ) (es : List ℕ) (g : ℕ) (t : Fact (model c))
      → (loose ≡ false) ⊎ IsFollowed (model c) (objects_of c a) f t
      → Shows (masked_model c a loose) (masked_origins_of c a loose) (objects_of c a) f is_root r (masked_events (model c) f es) g t
      ↔ Shows (model c) (origins_within (model c) (origins_of c) (mask_of c a loose) f h) (objects_of c a) f is_root r es g t
  pub calls : (f h s : ℕ) (t u : Fact (model c))
      → CallFlow (masked_model c a loose) (masked_origins_of c a loose) (objects_of c a) (record { caller = f; site = s; callee = h }) h t u
      ↔ CallFlow (model c) (origins_within (model c) (origins_of c) (mask_of c a loose) f h) (objects_of c a) s h t u
  pub returns : (f h s : ℕ) (t u : Fact (model c))
      → ReturnFlow (masked_model c a loose) (masked_origins_of c a loose) (objects_of c a) (record { caller = f; site = s; callee = h }) f t u
      ↔ ReturnFlow (model c) (origins_within (model c) (origins_of c) (mask_of c a loose) f h) (objects_of c a) s f t u

abbrev pub FlowsAreWithin : Type 0
FlowsAreWithin = (c : Checker) (a : ℕ → ℕ → Bool) (loose : Bool) → FlowWithin c a loose
