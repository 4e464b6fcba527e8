-- Blocks that only lead on, and ends that lead to where these lead.
use Rattle.std.specs.Prelude.{◌≡◌, ◌↔◌, ℕ, List, [], ◌∷◌, map}
use Rattle.flow_graph.specs.CPaths.Events.{Item}
use Rattle.flow_graph.specs.CPaths.Graphs.{Block, Ending, ToAny, Calls, Stops, GraphTrace}
use Rattle.flow_graph.specs.CPaths.Fragments.{Has}

module _ (g : List Block) where
  -- the block b has no event, and leads to c alone
  abbrev pub Forwards : ℕ → ℕ → Type 0
  Forwards b c = Has g b [] (ToAny (c ∷ []))

  -- control that comes to b comes to c, over such blocks alone
  pub data ComesTo : ℕ → ℕ → Type 0 where
    Stays : {b : ℕ} → ComesTo b b
    Over : {b c d : ℕ} → Forwards b c → ComesTo c d → ComesTo b d

-- the same end with another target for each
abbrev pub led : (ℕ → ℕ) → Ending → Ending
led f (ToAny bs) = ToAny (map f bs)
led f (Calls site b) = Calls site (f b)
led f Stops = Stops

-- the same block, whose end leads there
abbrev pub redirected : (ℕ → ℕ) → Block → Block
redirected f s = record { events = s.events; ending = led f s.ending }
