-- The global states with which the path edges of a set stand at the first places of blocks, whatever they know of objects.
use Rattle.std.specs.Prelude.{ℕ, Bool, Option}
use Rattle.path_theory.specs.Model.{Model}
use Rattle.path_theory.specs.Origins.{Origins}
use Rattle.path_theory.specs.Facts.{Fact, Objects}
use Rattle.path_theory.specs.FlowGraphs.{FlowGraphs}
use Rattle.path_theory.specs.TabulationRules.Rules.{EdgeIn, Seen}

-- an edge of the set stands at the block with this global state, in a frame that was entered with some tuple
pub record StandsAt (M : Model) (L : Origins M) (A : Objects M) (G : FlowGraphs M) (function : ℕ → Option M.Fn)
    (X : EdgeIn M L A G function → Type 0) (f : M.Fn) (k : Bool) (b : G.Block) (g : M.Global) : Type 0 where
  pub entry : M.Global
  pub entry_fact : Fact M
  pub fact : Fact M
  pub edge : Seen M L A G function X f k entry entry_fact b g fact
