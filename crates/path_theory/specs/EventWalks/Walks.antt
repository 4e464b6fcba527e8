-- A set of tuples, each a global state with a fact, that walks over events.
use Rattle.std.specs.Prelude.{◌≡◌, Bool, List}
use Rattle.path_theory.specs.Model.{Model}
use Rattle.path_theory.specs.Origins.{Origins}
use Rattle.path_theory.specs.Facts.{Fact, Objects}
use Rattle.path_theory.specs.Flows.{EventFlow}
use Rattle.path_theory.specs.BlockEdges.{Crosses}

-- a set of tuples
abbrev pub Tuples : Model → Type 1
Tuples M = M.Global → Fact M → Type 0

module _ (M : Model) (L : Origins M) (A : Objects M) (f : M.Fn) (k : Bool) where
  -- THE SET WALKS over one event: behind it stands what each of them becomes there, and nothing else
  pub record Walks (e : M.Event) (X Y : Tuples M) : Type 0 where
    pub real : (h : M.Global) (u : Fact M) → Y h u → (g : M.Global) × (t : Fact M) × X g t × (h ≡ M.next_global e f k g) × EventFlow M L A f k e g t u
    pub whole : (g : M.Global) (t u : Fact M) → X g t → EventFlow M L A f k e g t u → Y (M.next_global e f k g) u

  -- THE SET STANDS on the way of a tuple over events, before those that are left: what it becomes over these is what the tuple becomes over all
  pub record Stands (all left : List M.Event) (g : M.Global) (t : Fact M) (X : Tuples M) : Type 0 where
    pub real : (h i : M.Global) (u v : Fact M) → X h u → Crosses M L A f k left h u i v → Crosses M L A f k all g t i v
    pub whole : (i : M.Global) (v : Fact M) → Crosses M L A f k all g t i v → (h : M.Global) × (u : Fact M) × X h u × Crosses M L A f k left h u i v
