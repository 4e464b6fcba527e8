-- Functions cut into blocks, each a list of events behind which the frame goes on, calls, or ends.
-- The supergraph of such graphs has the heads of blocks and the points within them as its places.
use Rattle.std.specs.Prelude.{List, [], ◌∷◌}
use Rattle.path_theory.specs.Model.{Model}
use Rattle.path_theory.specs.Supergraph.{Supergraph}

pub record FlowGraphs (M : Model) : Type 1 where
  pub IsRoot : M.Fn → Type 0
  pub Block : Type 0
  pub first : M.Fn → Block
  pub events : M.Fn → Block → List M.Event
  -- one block goes on in another, the calls that aren't followed among these
  pub Next : M.Fn → Block → Block → Type 0
  -- a block ends in a call that is followed, and goes on in another
  pub Call : M.Fn → Block → M.Site → M.Fn → Block → Type 0
  -- a block ends the frame
  pub Ends : M.Fn → Block → Type 0

-- at the head of a block, or within it before these events
pub data Point (B E : Type 0) : Type 0 where
  Head : B → Point B E
  Before : B → List E → Point B E

module _ (M : Model) (G : FlowGraphs M) where
  pub data PointSkips (f : M.Fn) : Point G.Block M.Event → Point G.Block M.Event → Type 0 where
    EntersBlock : (b : G.Block) → PointSkips f (Head b) (Before b (G.events f b))
    LeavesBlock : {b c : G.Block} → G.Next f b c → PointSkips f (Before b []) (Head c)

  pub data PointGoes (f : M.Fn) : Point G.Block M.Event → M.Event → Point G.Block M.Event → Type 0 where
    PassesEvent : (b : G.Block) (e : M.Event) (es : List M.Event) → PointGoes f (Before b (e ∷ es)) e (Before b es)

  pub data PointCalls (f : M.Fn) : Point G.Block M.Event → M.Site → M.Fn → Point G.Block M.Event → Type 0 where
    MakesCall : {b c : G.Block} {s : M.Site} {h : M.Fn} → G.Call f b s h c → PointCalls f (Before b []) s h (Head c)

  pub data PointEnds (f : M.Fn) : Point G.Block M.Event → Type 0 where
    EndsFrame : {b : G.Block} → G.Ends f b → PointEnds f (Before b [])

  abbrev pub supergraph : Supergraph M
  supergraph = record { IsRoot = G.IsRoot; Place = Point G.Block M.Event; entry = λ f. Head (G.first f); Skips = PointSkips; Goes = PointGoes; Calls = PointCalls; Ends = PointEnds }
