-- Checkers and programs in which everything is named by numbers, each given by functions on them: a family of models
-- over plain values.
-- A contract can speak of all of its members, so the theorems that are stated of these in the contracts hold of any
-- tables.
use Rattle.std.specs.Prelude.{◌≡◌, ℕ, Bool, false, IsTrue, Option, List, option_and_then}
use Rattle.path_theory.specs.Model.{Model}
use Rattle.path_theory.specs.Supergraph.{Supergraph}
use Rattle.path_theory.specs.Origins.{Origins, handed}
use Rattle.path_theory.specs.Facts.{Objects}
use Rattle.path_theory.specs.FlowGraphs.{FlowGraphs, supergraph}
use Rattle.path_theory.specs.Marks.{Bodies}
use Rattle.path_theory.specs.FrameEnds.{IgnoresKind, EndsQuietly, Exits}

pub record Checker : Type 0 where
  pub start : ℕ
  pub source : ℕ → ℕ → Option ℕ
  pub into : ℕ → ℕ → Option ℕ
  pub out : ℕ → ℕ → Option ℕ
  pub next_global : ℕ → ℕ → Bool → ℕ → ℕ
  pub choose : ℕ → ℕ → Bool → ℕ → ℕ → Option ℕ → Option ℕ
  pub fires : ℕ → ℕ → Bool → ℕ → ℕ → Option ℕ → ℕ → Bool
  pub fires_global : ℕ → ℕ → Bool → ℕ → ℕ → Bool

-- a program by the edges between its places
pub record Program : Type 0 where
  pub is_root : ℕ → Bool
  pub entry : ℕ → ℕ
  pub skips : ℕ → ℕ → ℕ → Bool
  pub goes : ℕ → ℕ → ℕ → ℕ → Bool
  pub calls : ℕ → ℕ → ℕ → ℕ → ℕ → Bool
  pub ends : ℕ → ℕ → Bool

-- a program by its blocks
pub record BlockProgram : Type 0 where
  pub is_root : ℕ → Bool
  pub first : ℕ → ℕ
  pub events : ℕ → ℕ → List ℕ
  pub next : ℕ → ℕ → ℕ → Bool
  pub call : ℕ → ℕ → ℕ → ℕ → ℕ → Bool
  pub ends : ℕ → ℕ → Bool

-- the bodies of a program with a mark at each call
pub record BodyTable : Type 0 where
  pub entry : ℕ → ℕ
  pub skips : ℕ → ℕ → ℕ → Bool
  pub goes : ℕ → ℕ → ℕ → ℕ → Bool
  pub marks : ℕ → ℕ → ℕ → ℕ → Bool
  pub ends : ℕ → ℕ → Bool

abbrev pub model : Checker → Model
model c = record {
  Fn = ℕ;
  Event = ℕ;
  Site = ℕ;
  Obj = ℕ;
  Global = ℕ;
  State = ℕ;
  Report = ℕ;
  start = c.start;
  moved = λ e m o. option_and_then m (c.source e o);
  entered = λ s m o. option_and_then m (c.into s o);
  returned = λ s n m o. handed (c.out s o) n (m o);
  next_global = c.next_global;
  choose = c.choose;
  Fires = λ e f k g o x r. IsTrue (c.fires e f k g o x r);
  FiresGlobal = λ e f k g r. IsTrue (c.fires_global e f k g r);
}

abbrev pub origins_of : (c : Checker) → Origins (model c)
origins_of c = record { source = c.source; into = c.into; out = c.out }

abbrev pub supergraph_of : (c : Checker) → Program → Supergraph (model c)
supergraph_of c p = record {
  IsRoot = λ f. IsTrue (p.is_root f);
  Place = ℕ;
  entry = p.entry;
  Skips = λ f a b. IsTrue (p.skips f a b);
  Goes = λ f a e b. IsTrue (p.goes f a e b);
  Calls = λ f a s h b. IsTrue (p.calls f a s h b);
  Ends = λ f a. IsTrue (p.ends f a);
}

abbrev pub graphs_of : (c : Checker) → BlockProgram → FlowGraphs (model c)
graphs_of c p = record {
  IsRoot = λ f. IsTrue (p.is_root f);
  Block = ℕ;
  first = p.first;
  events = p.events;
  Next = λ f b d. IsTrue (p.next f b d);
  Call = λ f b s h d. IsTrue (p.call f b s h d);
  Ends = λ f b. IsTrue (p.ends f b);
}

abbrev pub block_supergraph_of : (c : Checker) → BlockProgram → Supergraph (model c)
block_supergraph_of c p = supergraph (model c) (graphs_of c p)

abbrev pub bodies_of : (c : Checker) → BodyTable → Bodies (model c)
bodies_of c b = record {
  Place = ℕ;
  entry = b.entry;
  Skips = λ f p q. IsTrue (b.skips f p q);
  Goes = λ f p e q. IsTrue (b.goes f p e q);
  Marks = λ f p s q. IsTrue (b.marks f p s q);
  Ends = λ f p. IsTrue (b.ends f p);
}

-- the objects that a table marks in each function
abbrev pub objects_of : (c : Checker) → (ℕ → ℕ → Bool) → Objects (model c)
objects_of c a f o = IsTrue (a f o)

-- the events that a table marks as ends of frames
abbrev pub IsMarked : (ℕ → Bool) → ℕ → Type 0
IsMarked x e = IsTrue (x e)

abbrev pub IsUnmarked : (ℕ → Bool) → ℕ → Type 0
IsUnmarked x e = x e ≡ false

abbrev pub exits_of : (c : Checker) (x : ℕ → Bool) → IgnoresKind (model c) (IsUnmarked x)
    → EndsQuietly (model c) (IsMarked x) → Exits (model c)
exits_of c x same quiet = record { IsExit = IsMarked x; Stays = IsUnmarked x; same = same; quiet = quiet }
