-- What the traces of a flow graph meet stands in its blocks: each event is one of a block's, and each followed call is
-- at a block's end.
-- So a set of objects is closed where it is closed under the events and calls of the blocks.
use Rattle.std.proofs.Common.{◌≡◌, List, [], ◌∷◌, ◌⊎◌, inl, inr, refl}
use Rattle.path_theory.specs.Model.{Model}
use Rattle.path_theory.specs.Walks.{Labels, Walk, WalkStart, WalkSkip, WalkGo, WalkCall}
use Rattle.path_theory.specs.Relevant.{EventOf, CallOf}
use Rattle.path_theory.specs.FlowGraphs.{FlowGraphs, Point, Head, Before, PointSkips, EntersBlock, LeavesBlock, PointGoes, PassesEvent, PointCalls, MakesCall, supergraph}

-- the element stands in the list
abbrev pub IsIn : {A : Type 0} → A → List A → Type 0
IsIn a [] = ⊥
IsIn a (b ∷ l) = (a ≡ b) ⊎ IsIn a l

-- what is in the first list is in the second
abbrev pub IsWithin : {A : Type 0} → List A → List A → Type 0
IsWithin {A = A} l m = (a : A) → IsIn a l → IsIn a m

module _ (M : Model) (G : FlowGraphs M) where
  -- at a point within a block, what is still to come is of the block
  abbrev IsLeft : M.Fn → Point G.Block M.Event → Type 0
  IsLeft f (Head b) = Unit {0}
  IsLeft f (Before b es) = IsWithin es (G.events f b)

  left_skip : {f : M.Fn} (p q : Point G.Block M.Event) → PointSkips M G f p q → IsLeft f q
  left_skip _ _ (EntersBlock b) = λ e i. i
  left_skip _ _ (LeavesBlock n) = tt

  left_go : {f : M.Fn} (p : Point G.Block M.Event) (e : M.Event) (q : Point G.Block M.Event) → PointGoes M G f p e q
      → IsLeft f p → IsLeft f q
  left_go _ _ _ (PassesEvent b e es) h = λ d i. h d (inr i)

  left_call : {f h : M.Fn} (p : Point G.Block M.Event) (s : M.Site) (q : Point G.Block M.Event)
      → PointCalls M G f p s h q → IsLeft f q
  left_call _ _ _ (MakesCall j) = tt

  left : {f : M.Fn} {l : Labels M} {p : Point G.Block M.Event} → Walk M (supergraph M G) f l p → IsLeft f p
  left WalkStart = tt
  left (WalkSkip W t) = left_skip _ _ t
  left (WalkGo W e t) = left_go _ _ _ t (left W)
  left (WalkCall W s h t) = left_call _ _ _ t

  event_here : {f : M.Fn} (p : Point G.Block M.Event) (e : M.Event) (q : Point G.Block M.Event)
      → PointGoes M G f p e q → IsLeft f p → (b : G.Block) × IsIn e (G.events f b)
  event_here _ _ _ (PassesEvent b e es) h = (b, h e (inl refl))

  -- an event of a trace is an event of a block
  pub event_in_block : {f : M.Fn} {e : M.Event} → EventOf M (supergraph M G) f e
      → (b : G.Block) × IsIn e (G.events f b)
  event_in_block w = event_here _ _ _ w.goes (left w.walk)

  call_here : {f h : M.Fn} (p : Point G.Block M.Event) (s : M.Site) (q : Point G.Block M.Event)
      → PointCalls M G f p s h q → (b : G.Block) × (c : G.Block) × G.Call f b s h c
  call_here _ _ _ (MakesCall {b = b} {c = c} j) = (b, c, j)

  -- a call of a trace is one at the end of a block
  pub call_in_block : {f h : M.Fn} {s : M.Site} → CallOf M (supergraph M G) f s h
      → (b : G.Block) × (c : G.Block) × G.Call f b s h c
  call_in_block w = call_here _ _ _ w.calls
