-- A set of entries at the heads of blocks from which nothing else follows has every path edge there, and shows its
-- reports.
-- Where each entry is a path edge, the set is that of the path edges, and its reports are theirs.
use Rattle.std.proofs.Common.{◌≡◌, Bool, false, Option, None, List, [], ◌∷◌}
use Rattle.path_theory.specs.Model.{Model}
use Rattle.path_theory.specs.Origins.{Origins}
use Rattle.path_theory.specs.Facts.{NoObject, HasObject, Objects, Fact}
use Rattle.path_theory.specs.Flows.{EventFlow, CallFlow, ReturnFlow}
use Rattle.path_theory.specs.Tabulation.{PathEdge, AtRoot, AlongSkip, AlongEvent, IntoCallee, OverCall, AroundCall, Found, FoundObject, FoundGlobal}
use Rattle.path_theory.specs.FlowGraphs.{FlowGraphs, Point, Head, Before, PointSkips, EntersBlock, LeavesBlock, PointGoes, PassesEvent, PointCalls, MakesCall, PointEnds, EndsFrame, supergraph}
use Rattle.path_theory.specs.BlockEdges.{Crosses, CrossesNone, CrossesOne, Shows, ShowsObject, ShowsGlobal, ShowsLater}
use Rattle.path_theory.specs.Saturated.{IsSaturated, ShownInKind}

module _ (M : Model) (L : Origins M) (A : Objects M) (G : FlowGraphs M) where
  abbrev pub D : M.Fn → Bool → M.Global → Fact M → Point G.Block M.Event → M.Global → Fact M → Type 0
  D = PathEdge M (supergraph M G) L A

  -- over the events of a block
  pub crossed : {f : M.Fn} {k : Bool} {g₀ i : M.Global} {t₀ u : Fact M} {b : G.Block} (es : List M.Event)
      {g : M.Global} {t : Fact M}
      → D f k g₀ t₀ (Before b es) g t → Crosses M L A f k es g t i u → D f k g₀ t₀ (Before b []) i u
  crossed [] d CrossesNone = d
  crossed (e ∷ es) d (CrossesOne a c) = crossed es (AlongEvent d e (PassesEvent _ e es) a) c

  pub to_end : {f : M.Fn} {k : Bool} {g₀ g i : M.Global} {t₀ t u : Fact M} {b : G.Block} → D f k g₀ t₀ (Head b) g t
      → Crosses M L A f k (G.events f b) g t i u → D f k g₀ t₀ (Before b []) i u
  to_end {f = f} {b = b} d c = crossed (G.events f b) (AlongSkip d (EntersBlock b)) c

  module _ (X : M.Fn → Bool → M.Global → Fact M → G.Block → M.Global → Fact M → Type 0) (S : IsSaturated M L A G X) where
    -- what stands in a block before these events
    pub record Inside (f : M.Fn) (k : Bool) (g₀ : M.Global) (t₀ : Fact M) (b : G.Block) (es : List M.Event)
        (g : M.Global) (t : Fact M) : Type 0 where
      pub global : M.Global
      pub fact : Fact M
      pub entry : X f k g₀ t₀ b global fact
      pub crosses : (i : M.Global) (u : Fact M) → Crosses M L A f k es g t i u
          → Crosses M L A f k (G.events f b) global fact i u
      pub shows : (r : M.Report) → Shows M L A f k r es g t → Shows M L A f k r (G.events f b) global fact

    pub data Stands (f : M.Fn) (k : Bool) (g₀ : M.Global) (t₀ : Fact M) : Point G.Block M.Event → M.Global → Fact M
        → Type 0 where
      AtHead : {b : G.Block} {g : M.Global} {t : Fact M} → X f k g₀ t₀ b g t → Stands f k g₀ t₀ (Head b) g t
      Within : {b : G.Block} {es : List M.Event} {g : M.Global} {t : Fact M} → Inside f k g₀ t₀ b es g t
          → Stands f k g₀ t₀ (Before b es) g t

    stands_skip : {f : M.Fn} {k : Bool} {g₀ g : M.Global} {t₀ t : Fact M} {p q : Point G.Block M.Event}
        → PointSkips M G f p q → Stands f k g₀ t₀ p g t → Stands f k g₀ t₀ q g t
    stands_skip (EntersBlock b) (AtHead x) = Within (record { global = _; fact = _; entry = x; crosses = λ i u c. c; shows = λ r c. c })
    stands_skip (LeavesBlock n) (Within x) = AtHead (S.next x.entry (x.crosses _ _ CrossesNone) n)

    stands_go : {f : M.Fn} {k : Bool} {g₀ g : M.Global} {t₀ t u : Fact M} {e : M.Event} {p q : Point G.Block M.Event}
        → PointGoes M G f p e q → EventFlow M L A f k e g t u → Stands f k g₀ t₀ p g t
        → Stands f k g₀ t₀ q (M.next_global e f k g) u
    stands_go (PassesEvent b e es) a (Within x) = Within (record { global = x.global; fact = x.fact; entry = x.entry; crosses = λ i u c. x.crosses i u (CrossesOne a c); shows = λ r c. x.shows r (ShowsLater a c) })

    stands_call : {f h : M.Fn} {k : Bool} {g₀ g : M.Global} {t₀ t u : Fact M} {s : M.Site} {p q : Point G.Block M.Event}
        → PointCalls M G f p s h q → CallFlow M L A s h t u → Stands f k g₀ t₀ p g t
        → Stands h false g u (Head (G.first h)) g u
    stands_call {s = s} (MakesCall j) a (Within x) = AtHead (S.call x.entry (x.crosses _ _ CrossesNone) s j a)

    stands_return : {f h : M.Fn} {k : Bool} {g₀ g i : M.Global} {t₀ t u v w : Fact M} {s : M.Site}
        {p q r : Point G.Block M.Event}
        → PointCalls M G f p s h q → PointEnds M G h r → CallFlow M L A s h t u → ReturnFlow M L A s f v w
        → Stands f k g₀ t₀ p g t → Stands h false g u r i v → Stands f k g₀ t₀ q i w
    stands_return {s = s} (MakesCall j) (EndsFrame l) a b (Within x) (Within y) = AtHead (S.return x.entry (x.crosses _ _ CrossesNone) s j a y.entry (y.crosses _ _ CrossesNone) l b)

    stands_saved : {f h : M.Fn} {k : Bool} {g₀ g i : M.Global} {t₀ : Fact M} {o : M.Obj} {z : Option M.State}
        {s : M.Site} {p q r : Point G.Block M.Event}
        → PointCalls M G f p s h q → PointEnds M G h r → L.out s o ≡ None → Stands f k g₀ t₀ p g (HasObject o z)
        → Stands h false g NoObject r i NoObject → Stands f k g₀ t₀ q i (HasObject o z)
    stands_saved {s = s} (MakesCall j) (EndsFrame l) d (Within x) (Within y) = AtHead (S.saved x.entry (x.crosses _ _ CrossesNone) s j y.entry (y.crosses _ _ CrossesNone) l d)

    pub stands : {f : M.Fn} {k : Bool} {g₀ g : M.Global} {t₀ t : Fact M} {p : Point G.Block M.Event}
        → D f k g₀ t₀ p g t → Stands f k g₀ t₀ p g t
    stands (AtRoot r a) = AtHead (S.root r a)
    stands (AlongSkip d t) = stands_skip t (stands d)
    stands (AlongEvent d e t a) = stands_go t a (stands d)
    stands (IntoCallee d s t a) = stands_call t a (stands d)
    stands (OverCall d s t a c e b) = stands_return t e a b (stands d) (stands c)
    stands (AroundCall d s t c e z) = stands_saved t e z (stands d) (stands c)

    at_head : {f : M.Fn} {k : Bool} {g₀ g : M.Global} {t₀ t : Fact M} {b : G.Block} → Stands f k g₀ t₀ (Head b) g t
        → X f k g₀ t₀ b g t
    at_head (AtHead x) = x

    -- each path edge at the head of a block is an entry
    pub least : {f : M.Fn} {k : Bool} {g₀ g : M.Global} {t₀ t : Fact M} {b : G.Block} → D f k g₀ t₀ (Head b) g t
        → X f k g₀ t₀ b g t
    least d = at_head (stands d)

    given_at : {f : M.Fn} {k : Bool} {g₀ g : M.Global} {t₀ t : Fact M} {p q : Point G.Block M.Event} {e : M.Event}
        (r : M.Report)
        → PointGoes M G f p e q → Stands f k g₀ t₀ p g t → ((es : List M.Event) → Shows M L A f k r (e ∷ es) g t)
        → ShownInKind M L A G X r
    given_at r (PassesEvent b e es) (Within x) h = record { fn = _; is_root = _; global₀ = _; fact₀ = _; block = b; global = x.global; fact = x.fact; entry = x.entry; shows = x.shows r (h es) }

    -- and each of its reports is one of an entry
    pub given : (r : M.Report) → Found M (supergraph M G) L A r → ShownInKind M L A G X r
    given r (FoundObject d e t o x a v i) = given_at r t (stands d) (λ es. ShowsObject o x a v i)
    given r (FoundGlobal d e t i) = given_at r t (stands d) (λ es. ShowsGlobal i)

  -- a report within a block
  pub shown : {f : M.Fn} {k : Bool} {g₀ : M.Global} {t₀ : Fact M} {b : G.Block} (r : M.Report) (es : List M.Event)
      {g : M.Global} {t : Fact M}
      → D f k g₀ t₀ (Before b es) g t → Shows M L A f k r es g t → Found M (supergraph M G) L A r
  shown r [] d w = elim w [ ]
  shown r (e ∷ es) d (ShowsObject o x a v i) = FoundObject d e (PassesEvent _ e es) o x a v i
  shown r (e ∷ es) d (ShowsGlobal i) = FoundGlobal d e (PassesEvent _ e es) i
  shown r (e ∷ es) d (ShowsLater a w) = shown r es (AlongEvent d e (PassesEvent _ e es) a) w

  -- entries of which each is a path edge show no other reports
  pub found_of : (X : M.Fn → Bool → M.Global → Fact M → G.Block → M.Global → Fact M → Type 0)
      → ((f : M.Fn) (k : Bool) (g₀ : M.Global) (t₀ : Fact M) (b : G.Block) (g : M.Global) (t : Fact M) → X f k g₀ t₀ b g t → D f k g₀ t₀ (Head b) g t)
      → (r : M.Report) → ShownInKind M L A G X r → Found M (supergraph M G) L A r
  found_of X h r w = shown r (G.events w.fn w.block) (AlongSkip (h _ _ _ _ _ _ _ w.entry) (EntersBlock w.block)) w.shows
