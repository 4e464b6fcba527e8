-- Rules over an engine's own values, each of which stands for an edge, a context or a waiter: when they say the same as those of
-- tabulation. Not each edge has to have a value, only those that follow by the rules.
use Rattle.std.specs.Prelude.{◌≡◌, ℕ, Option}
use Rattle.path_theory.specs.Model.{Model}
use Rattle.path_theory.specs.Origins.{Origins}
use Rattle.path_theory.specs.Facts.{Objects}
use Rattle.path_theory.specs.FlowGraphs.{FlowGraphs}
use Rattle.path_theory.specs.TabulationRules.Rules.{Base, ContextIn, EdgeIn, Ends, Goes, WaiterIn, Waits, Wakes}

-- some value of which this holds stands for the thing
pub record StandsFor {E T : Type 0} (view : E → T) (P : E → Type 0) (e : T) : Type 0 where
  pub value : E
  pub is : view value ≡ e
  pub holds : P value

module _ (M : Model) (L : Origins M) (A : Objects M) (G : FlowGraphs M) (function : ℕ → Option M.Fn) where
  module _ {E K W : Type 0} (edge : E → EdgeIn M L A G function) (context : K → ContextIn M L A G function) (waiter : W → WaiterIn M L A G function) where
    -- somebody waits so, at a value for this context
    pub record StandsForWait (P : K → W → Type 0) (k : ContextIn M L A G function) (w : WaiterIn M L A G function) : Type 0 where
      pub on : K
      pub who : W
      pub is_on : context on ≡ k
      pub is_who : waiter who ≡ w
      pub holds : P on who

    module _ (first : E → Type 0) (next : E → E → Type 0) (wait : E → K → W → Type 0) (stop : E → K → Type 0) (wake : W → E → E → Type 0) where
      -- what follows by these rules follows by those of tabulation
      pub record AreSound : Type 0 where
        pub base : (c : E) → first c → Base M L A G function (edge c)
        pub goes : (a c : E) → next a c → Goes M L A G function (edge a) (edge c)
        pub waits : (a : E) (k : K) (w : W) → wait a k w → Waits M L A G function (edge a) (context k) (waiter w)
        pub ends : (b : E) (k : K) → stop b k → Ends M L A G function (edge b) (context k)
        pub wakes : (w : W) (b c : E) → wake w b c → Wakes M L A G function (waiter w) (edge b) (edge c)

      -- and what follows by those has a value that follows by these
      pub record AreComplete : Type 0 where
        pub base : (e : EdgeIn M L A G function) → Base M L A G function e → StandsFor edge first e
        pub goes : (a : E) (e : EdgeIn M L A G function) → Goes M L A G function (edge a) e → StandsFor edge (next a) e
        pub waits : (a : E) (k : ContextIn M L A G function) (w : WaiterIn M L A G function) → Waits M L A G function (edge a) k w
            → StandsForWait (wait a) k w
        pub ends : (b : E) (k : K) → Ends M L A G function (edge b) (context k) → stop b k
        pub wakes : (w : W) (b : E) (e : EdgeIn M L A G function) → Wakes M L A G function (waiter w) (edge b) e
            → StandsFor edge (wake w b) e
