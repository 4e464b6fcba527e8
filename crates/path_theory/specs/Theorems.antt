-- These theorems as statements about all numbered checkers and programs, which contracts can name.
-- The lemmas in `proofs/` have them for any model; each contract of `src/theorems.rt` names one.
use Rattle.std.specs.Prelude.{◌≡◌, ℕ, Bool, true, false, IsTrue, Option, Some, List, ◌↔◌}
use Rattle.std.specs.List.{Contains}
use Rattle.path_theory.specs.Supergraph.{Supergraph}
use Rattle.path_theory.specs.Trails.{More}
use Rattle.path_theory.specs.Walks.{HasTraces}
use Rattle.path_theory.specs.Model.{Map}
use Rattle.path_theory.specs.Callers.{Callers}
use Rattle.path_theory.specs.Paths.{Path, after}
use Rattle.path_theory.specs.Actions.{Action, Actions}
use Rattle.path_theory.specs.FlatPaths.{IsPath, InErrors}
use Rattle.path_theory.specs.Runs.{Run, run_map, origin}
use Rattle.path_theory.specs.Facts.{Fact, IsFollowed}
use Rattle.path_theory.specs.Tabulation.{PathEdge, Found}
use Rattle.path_theory.specs.Realised.{Realised, RealisedByTraces}
use Rattle.path_theory.specs.Relevant.{IsClosed}
use Rattle.path_theory.specs.FlowGraphs.{Head}
use Rattle.path_theory.specs.Saturated.{IsSaturated, ShownInKind}
use Rattle.path_theory.specs.FrameEnds.{IgnoresKind, EndsQuietly, ExitsApart}
use Rattle.path_theory.specs.Merged.{IsUnknown, Kinds, Shown}
use Rattle.path_theory.specs.Entries.{Entry, among, IsLeastLog}
use Rattle.path_theory.specs.Marks.{HasMarked, under}
use Rattle.path_theory.specs.PathLengths.{ReportedIn}
use Rattle.path_theory.specs.FrameEdges.{FrameEdge, Begins, FoundIn}
use Rattle.path_theory.specs.Unchanged.{Unchanged}
use Rattle.path_theory.specs.Numbered.{Checker, Program, BlockProgram, BodyTable, model, origins_of, supergraph_of, graphs_of, block_supergraph_of, bodies_of, objects_of, IsMarked, IsUnmarked, exits_of}

-- what a path has done before its last action is a path from the same root
abbrev pub PrefixesArePaths : Type 0
PrefixesArePaths = (c : Checker) (p : Program) (root : ℕ) (l : Actions (model c)) (a : Action ℕ ℕ ℕ)
    → IsPath (model c) (supergraph_of c p) root (More l a)
    → IsPath (model c) (supergraph_of c p) root l

-- two maps that agree at the origin of an object agree at the object after the run
abbrev pub ObjectsAreIndependent : Type 0
ObjectsAreIndependent = (c : Checker) (p : Program) (f place : ℕ) (run : Run (model c) (supergraph_of c p) f place)
    → (is_root : Bool) (global : ℕ) (m n : Map (model c)) (o : ℕ)
    → ((b : ℕ) → origin (model c) (supergraph_of c p) (origins_of c) run o ≡ Some b → m b ≡ n b)
    → run_map (model c) (supergraph_of c p) run is_root global m o ≡ run_map (model c) (supergraph_of c p) run is_root global n o

-- the table marks objects that may be followed alone
abbrev pub IsClosedTable : Checker → Program → (ℕ → ℕ → Bool) → Type 0
IsClosedTable c p a = IsClosed (model c) (supergraph_of c p) (origins_of c) (objects_of c a)

-- the path takes the report of this object at an event with which it goes on
abbrev pub Takes : (c : Checker) (p : Program) {f place : ℕ} {is_root : Bool}
    {below : Callers (model c) (supergraph_of c p)}
    → Path (model c) (supergraph_of c p) f is_root place below → ℕ → ℕ → ℕ → Type 0
Takes c p {f = f} {place = place} {is_root = is_root} path e o r =
    let now = after (model c) (supergraph_of c p) path in
    ((next : ℕ) × IsTrue (p.goes f place e next)) × (model c).Fires e f is_root now.global o ((model c).moved e now.here o) r

-- an object with a known state on a path is followed, and so is one of which an event gives a report
abbrev pub KnownObjectsAreFollowed : Type 0
KnownObjectsAreFollowed = (c : Checker) (p : Program) (a : ℕ → ℕ → Bool) → IsClosedTable c p a
    → (f : ℕ) (is_root : Bool) (place : ℕ) (below : Callers (model c) (supergraph_of c p))
    → (path : Path (model c) (supergraph_of c p) f is_root place below) (o : ℕ)
    → ((x : ℕ) → (after (model c) (supergraph_of c p) path).here o ≡ Some x → IsTrue (a f o))
    × ((e r : ℕ) → Takes c p path e o r → IsTrue (a f o))

-- the path edges are exactly the realised tuples of followed objects
abbrev pub PathEdgesAreRealised : Type 0
PathEdgesAreRealised = (c : Checker) (p : Program) (a : ℕ → ℕ → Bool) → IsClosedTable c p a
    → (f : ℕ) (is_root : Bool) (g₀ : ℕ) (t₀ : Fact (model c)) (place g : ℕ) (t : Fact (model c))
    → PathEdge (model c) (supergraph_of c p) (origins_of c) (objects_of c a) f is_root g₀ t₀ place g t
    ↔ (Realised (model c) (supergraph_of c p) (origins_of c) f is_root g₀ t₀ place g t
    × IsFollowed (model c) (objects_of c a) f t)

-- the reports of the path edges are exactly those among the errors of some path
abbrev pub ReportsAreThoseOfPaths : Type 0
ReportsAreThoseOfPaths = (c : Checker) (p : Program) (a : ℕ → ℕ → Bool) → IsClosedTable c p a
    → (r : ℕ)
    → Found (model c) (supergraph_of c p) (origins_of c) (objects_of c a) r ↔ InErrors (model c) (supergraph_of c p) r

-- with their lengths too
abbrev pub LengthsAreThoseOfPaths : Type 0
LengthsAreThoseOfPaths = (c : Checker) (p : Program) (a : ℕ → ℕ → Bool) → IsClosedTable c p a
    → (r n : ℕ)
    → FoundIn (model c) (supergraph_of c p) (origins_of c) (objects_of c a) r n ↔ ReportedIn (model c) (supergraph_of c p) r n

-- the table marks objects of a program in blocks that may be followed alone
abbrev pub IsClosedInBlocks : Checker → BlockProgram → (ℕ → ℕ → Bool) → Type 0
IsClosedInBlocks c p a = IsClosed (model c) (block_supergraph_of c p) (origins_of c) (objects_of c a)

-- entries at the heads of blocks, with the kind of frame, as a table
abbrev pub EntryTable : Checker → Type 0
EntryTable c = ℕ → Bool → ℕ → Fact (model c) → ℕ → ℕ → Fact (model c) → Bool

abbrev pub IsEntry : (c : Checker) → EntryTable c → ℕ → Bool → ℕ → Fact (model c) → ℕ → ℕ → Fact (model c) → Type 0
IsEntry c x f is_root g₀ t₀ b g t = IsTrue (x f is_root g₀ t₀ b g t)

-- each entry is a path edge at the head of its block, and nothing else follows from them
pub record IsExactTable (c : Checker) (p : BlockProgram) (a : ℕ → ℕ → Bool) (x : EntryTable c) : Type 0 where
  pub saturated : IsSaturated (model c) (origins_of c) (objects_of c a) (graphs_of c p) (IsEntry c x)
  pub edges : (f : ℕ) (is_root : Bool) (g₀ : ℕ) (t₀ : Fact (model c)) (b g : ℕ) (t : Fact (model c))
      → IsEntry c x f is_root g₀ t₀ b g t
      → PathEdge (model c) (block_supergraph_of c p) (origins_of c) (objects_of c a) f is_root g₀ t₀ (Head b) g t

-- the reports of such entries are exactly those among the errors of some path
abbrev pub ExactTableReports : Type 0
ExactTableReports = (c : Checker) (p : BlockProgram) (a : ℕ → ℕ → Bool) (x : EntryTable c)
    → IsExactTable c p a x → IsClosedInBlocks c p a
    → (r : ℕ)
    → ShownInKind (model c) (origins_of c) (objects_of c a) (graphs_of c p) (IsEntry c x) r
    ↔ InErrors (model c) (block_supergraph_of c p) r

-- a checker and a program in blocks that meet the laws under which contexts of both kinds of frame are merged
pub record Blocks : Type 0 where
  pub checker : Checker
  pub program : BlockProgram
  pub objects : ℕ → ℕ → Bool
  pub exits : ℕ → Bool
  pub same : IgnoresKind (model checker) (IsUnmarked exits)
  pub quiet : EndsQuietly (model checker) (IsMarked exits)
  pub kinds : Kinds (model checker) (graphs_of checker program)
  pub apart : ExitsApart (model checker) (origins_of checker) (exits_of checker exits same quiet) (graphs_of checker program)
  pub closed : IsClosedInBlocks checker program objects

-- what paths realise at the head of a block, in a frame of this kind
abbrev pub IsRealised : (s : Blocks) → ℕ → Bool → ℕ → Fact (model s.checker) → ℕ → ℕ → Fact (model s.checker) → Type 0
IsRealised s f is_root g₀ t₀ b g t =
    Realised (model s.checker) (block_supergraph_of s.checker s.program) (origins_of s.checker) f is_root g₀ t₀ (Head b) g t

-- what a called frame of a root that begins as a root does comes to, the root's own frame comes to
abbrev pub OwnFramesStandForCalledOnes : Type 0
OwnFramesStandForCalledOnes = (s : Blocks) (f : ℕ) (t₀ : Fact (model s.checker)) (b g : ℕ) (t : Fact (model s.checker))
    → IsTrue (s.program.is_root f) → IsUnknown (model s.checker) t₀
    → IsRealised s f false s.checker.start t₀ b g t
    → IsRealised s f true s.checker.start t₀ b g t

abbrev pub Log : Blocks → Type 0
Log s = List (Entry (model s.checker) (graphs_of s.checker s.program))

-- the log is the least set of entries
abbrev pub IsLeast : (s : Blocks) → Log s → Type 0
IsLeast s log =
    IsLeastLog (model s.checker) (origins_of s.checker) (objects_of s.checker s.objects) (graphs_of s.checker s.program)
    s.kinds (Contains log)

abbrev pub InLog : (s : Blocks) → Log s → ℕ → ℕ → Fact (model s.checker) → ℕ → ℕ → Fact (model s.checker) → Type 0
InLog s log = among (model s.checker) (graphs_of s.checker s.program) (Contains log)

-- an entry of the log shows the report
abbrev pub LogShows : (s : Blocks) → Log s → ℕ → Type 0
LogShows s log =
    Shown (model s.checker) (origins_of s.checker) (objects_of s.checker s.objects) (graphs_of s.checker s.program)
    s.kinds (InLog s log)

-- the reports that a least log shows are exactly those among the errors of some path
abbrev pub LeastLogReports : Type 0
LeastLogReports = (s : Blocks) (log : Log s) → IsLeast s log
    → (r : ℕ) → LogShows s log r ↔ InErrors (model s.checker) (block_supergraph_of s.checker s.program) r

-- its entries are exactly the realised tuples of followed objects, in a frame of either kind
abbrev pub LeastLogIsRealised : Type 0
LeastLogIsRealised = (s : Blocks) (log : Log s) → IsLeast s log
    → (f g₀ : ℕ) (t₀ : Fact (model s.checker)) (b g : ℕ) (t : Fact (model s.checker))
    → InLog s log f g₀ t₀ b g t
    ↔ (((is_root : Bool) × IsRealised s f is_root g₀ t₀ b g t)
    × IsFollowed (model s.checker) (objects_of s.checker s.objects) f t)

-- two programs have the same roots and traces
abbrev pub SameTraces : Checker → Program → Program → Type 0
SameTraces c p q =
    HasTraces (model c) (supergraph_of c p) (supergraph_of c q)
    × HasTraces (model c) (supergraph_of c q) (supergraph_of c p)

abbrev pub SameTracesReportTheSame : Type 0
SameTracesReportTheSame = (c : Checker) (p q : Program) → SameTraces c p q
    → (r : ℕ) → InErrors (model c) (supergraph_of c p) r ↔ InErrors (model c) (supergraph_of c q) r

-- what the second realises is what the paths of the first realise at the ends of walks in the second
abbrev pub SameTracesRealiseTheSame : Type 0
SameTracesRealiseTheSame = (c : Checker) (p q : Program) → SameTraces c p q
    → (f : ℕ) (is_root : Bool) (g₀ : ℕ) (t₀ : Fact (model c)) (place g : ℕ) (t : Fact (model c))
    → RealisedByTraces (model c) (supergraph_of c p) (supergraph_of c q) (origins_of c) f is_root g₀ t₀ place g t
    ↔ Realised (model c) (supergraph_of c q) (origins_of c) f is_root g₀ t₀ place g t

-- these bodies under a checker with these roots that follows these calls
abbrev pub followed_in : (c : Checker) → (ℕ → Bool) → (ℕ → ℕ → Option ℕ) → BodyTable → Supergraph (model c)
followed_in c is_root followed b = under (model c) (λ f. IsTrue (is_root f)) followed (bodies_of c b)

-- bodies with the same marked traces have the same reports under each checker, whichever calls it follows
abbrev pub SameMarksReportTheSame : Type 0
SameMarksReportTheSame = (c : Checker) (is_root : ℕ → Bool) (followed : ℕ → ℕ → Option ℕ) (b d : BodyTable)
    → HasMarked (model c) (bodies_of c b) (bodies_of c d) → HasMarked (model c) (bodies_of c d) (bodies_of c b)
    → (r : ℕ)
    → InErrors (model c) (followed_in c is_root followed b) r ↔ InErrors (model c) (followed_in c is_root followed d) r

-- the functions in the table have the same bodies and objects in both programs, and call only such functions
pub record IsUnchanged (c : Checker) (p q : Program) (a b : ℕ → ℕ → Bool) (u : ℕ → Bool) (at back : ℕ → ℕ) : Type 0 where
  pub there : Unchanged (model c) (supergraph_of c p) (supergraph_of c q) (objects_of c a) (objects_of c b) (λ f. IsTrue (u f)) at
  pub here : Unchanged (model c) (supergraph_of c q) (supergraph_of c p) (objects_of c b) (objects_of c a) (λ f. IsTrue (u f)) back
  pub same : (place : ℕ) → back (at place) ≡ place

-- what a frame of an unchanged function comes to in one program is exactly what it comes to in the other
abbrev pub UnchangedFramesStay : Type 0
UnchangedFramesStay = (c : Checker) (p q : Program) (a b : ℕ → ℕ → Bool) (u : ℕ → Bool) (at back : ℕ → ℕ)
    → IsUnchanged c p q a b u at back
    → (f : ℕ) (is_root : Bool) (g₀ : ℕ) (t₀ : Fact (model c)) (place g : ℕ) (t : Fact (model c)) (n : ℕ) → IsTrue (u f)
    → FrameEdge (model c) (supergraph_of c p) (origins_of c) (objects_of c a) f is_root g₀ t₀ place g t n
    ↔ FrameEdge (model c) (supergraph_of c q) (origins_of c) (objects_of c b) f is_root g₀ t₀ (at place) g t n

-- the path edges of a context that some path begins are what its frame comes to, in some number of steps
abbrev pub ContextsAreApart : Type 0
ContextsAreApart = (c : Checker) (p : Program) (a : ℕ → ℕ → Bool) (f : ℕ) (is_root : Bool) (g₀ : ℕ) (t₀ : Fact (model c)) (m : ℕ)
    → Begins (model c) (supergraph_of c p) (origins_of c) (objects_of c a) f is_root g₀ t₀ m
    → (place g : ℕ) (t : Fact (model c))
    → PathEdge (model c) (supergraph_of c p) (origins_of c) (objects_of c a) f is_root g₀ t₀ place g t
    ↔ ((n : ℕ) × FrameEdge (model c) (supergraph_of c p) (origins_of c) (objects_of c a) f is_root g₀ t₀ place g t n)
