-- When a set of path edges is the least one under the rules, said of any set and of a list, and which functions have to have numbers.
use Rattle.std.specs.Prelude.{◌≡◌, ℕ, Option, Some, List, Contains}
use Rattle.path_theory.specs.Model.{Model}
use Rattle.path_theory.specs.Origins.{Origins}
use Rattle.path_theory.specs.Facts.{Objects}
use Rattle.path_theory.specs.FlowGraphs.{FlowGraphs}
use Rattle.least_set.specs.TwoPremises.{Follows, Least}
use Rattle.path_theory.specs.TabulationRules.Rules.{Base, ContextIn, EdgeIn, Ends, Goes, ShowsReport, WaiterIn, Waits, Wakes}

-- each root has a number, and each function that one with a number calls
pub record HasNumbers (M : Model) (G : FlowGraphs M) (function : ℕ → Option M.Fn) : Type 0 where
  pub root : (f : M.Fn) → G.IsRoot f → (n : ℕ) × function n ≡ Some f
  pub callee : (f h : M.Fn) (m : ℕ) (s : M.Site) (b c : G.Block) → function m ≡ Some f → G.Call f b s h c
      → (n : ℕ) × function n ≡ Some h

module _ (M : Model) (L : Origins M) (A : Objects M) (G : FlowGraphs M) (function : ℕ → Option M.Fn) where
  -- what follows in one step from the edges of a list
  abbrev pub FollowsFrom : List (EdgeIn M L A G function) → EdgeIn M L A G function → Type 0
  FollowsFrom = Follows (Base M L A G function) (Goes M L A G function) (Waits M L A G function) (Ends M L A G function) (Wakes M L A G function)

  -- the least set of edges that has the base and what follows from it
  abbrev pub IsDerived : EdgeIn M L A G function → Type 0
  IsDerived = Least (Base M L A G function) (Goes M L A G function) (Waits M L A G function) (Ends M L A G function) (Wakes M L A G function)

  -- the set has the base, and what follows from one of its members, or from one that waits and one that ends
  pub record IsClosedUnder (X : EdgeIn M L A G function → Type 0) : Type 0 where
    pub base : (c : EdgeIn M L A G function) → Base M L A G function c → X c
    pub goes : (a c : EdgeIn M L A G function) → X a → Goes M L A G function a c → X c
    pub wakes : (a b c : EdgeIn M L A G function) (k : ContextIn M L A G function) (w : WaiterIn M L A G function) → X a
        → Waits M L A G function a k w → X b → Ends M L A G function b k → Wakes M L A G function w b c → X c

  -- and has no others
  pub record IsLeastSet (X : EdgeIn M L A G function → Type 0) : Type 0 where
    pub closed : IsClosedUnder X
    pub only : (e : EdgeIn M L A G function) → X e → IsDerived e

  -- the same of a list
  pub record IsLeastLog (log : List (EdgeIn M L A G function)) : Type 0 where
    pub closed : (c : EdgeIn M L A G function) → FollowsFrom log c → Contains log c
    pub only : (c : EdgeIn M L A G function) → Contains log c → IsDerived c

  -- a member of the set shows the report
  abbrev pub Shown : (EdgeIn M L A G function → Type 0) → M.Report → Type 0
  Shown X r = (e : EdgeIn M L A G function) × X e × ShowsReport M L A G function e r
