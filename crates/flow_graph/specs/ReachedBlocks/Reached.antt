-- THE BLOCKS OF A GRAPH to which control may come from its entry, and what happens in them.
use Rattle.std.specs.Prelude.{◌≡◌, ◌<◌, ℕ, List, length, slice_get}
use Rattle.flow_graph.specs.CPaths.BlockGraphs.{events_at}
use Rattle.flow_graph.specs.CPaths.Building.{Graph}
use Rattle.flow_graph.specs.CPaths.Events.{Event}
use Rattle.flow_graph.specs.CPaths.Fragments.{Has}
use Rattle.flow_graph.specs.CPaths.Graphs.{Ending, ToAny, Calls, Stops}
use Rattle.flow_graph.specs.CPaths.Membership.{Among}
use Rattle.c_tree.specs.Node.{Node}
use Rattle.least_set.specs.Logs.{IsExactly, IsOnce}

-- control may go on in this block behind one that ends so: behind a call once it comes back, whether it is followed or not
abbrev pub GoesOn : Ending → ℕ → Type 0
GoesOn (ToAny bs) c = Among c bs
GoesOn (Calls site b) c = b ≡ c
GoesOn Stops c = ⊥

module _ (g : Graph) where
  -- one block leads to the other
  pub record Leads (b c : ℕ) : Type 0 where
    pub events : List Event
    pub ending : Ending
    pub has : Has g.blocks b events ending
    pub goes : GoesOn ending c

  -- THE BLOCKS THAT CONTROL REACHES
  pub data Reaches : ℕ → Type 0 where
    Begins : Reaches g.entry
    Onward : {b c : ℕ} → Reaches b → Leads b c → Reaches c

  -- such a block has the event
  pub record Happens (e : Event) : Type 0 where
    pub block : ℕ
    pub reached : Reaches block
    pub among : Among e (events_at (slice_get g.blocks block))

  -- such a block ends in the call
  pub record Called (site : Node) : Type 0 where
    pub block : ℕ
    pub events : List Event
    pub next : ℕ
    pub reached : Reaches block
    pub has : Has g.blocks block events (Calls site next)

  -- their list: each of them once
  pub record AreReached (blocks : List ℕ) : Type 0 where
    pub exact : IsExactly blocks Reaches
    pub once : IsOnce blocks

  -- no block is there to which control doesn't come
  abbrev pub AllReached : Type 0
  AllReached = (b : ℕ) → b < length g.blocks → Reaches b
