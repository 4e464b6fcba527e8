-- Entries at the heads of blocks, with the kind of frame in their contexts: what follows from them in one step, and
-- when nothing else follows.
-- This is the form for an engine that enters a root's own frame and a called frame apart.
use Rattle.std.specs.Prelude.{◌≡◌, Bool, true, false, Option, None}
use Rattle.path_theory.specs.Model.{Model}
use Rattle.path_theory.specs.Origins.{Origins}
use Rattle.path_theory.specs.Facts.{NoObject, HasObject, Fact, Objects}
use Rattle.path_theory.specs.Flows.{Starts, CallFlow, ReturnFlow}
use Rattle.path_theory.specs.FlowGraphs.{FlowGraphs}
use Rattle.path_theory.specs.BlockEdges.{Crosses, Shows}

module _ (M : Model) (L : Origins M) (A : Objects M) (G : FlowGraphs M) where
  -- what follows in one step from the entries Y is among the entries X
  pub record LeadsInKind (Y X : M.Fn → Bool → M.Global → Fact M → G.Block → M.Global → Fact M → Type 0) : Type 0 where
    pub root : {f : M.Fn} {t : Fact M} → G.IsRoot f → Starts M L A f t → X f true M.start t (G.first f) M.start t
    pub next : {f : M.Fn} {k : Bool} {g₀ g i : M.Global} {t₀ t u : Fact M} {b c : G.Block} → Y f k g₀ t₀ b g t
        → Crosses M L A f k (G.events f b) g t i u → G.Next f b c → X f k g₀ t₀ c i u
    pub call : {f h : M.Fn} {k : Bool} {g₀ g i : M.Global} {t₀ t u v : Fact M} {b c : G.Block} → Y f k g₀ t₀ b g t
        → Crosses M L A f k (G.events f b) g t i u → (s : M.Site) → G.Call f b s h c → CallFlow M L A s h u v
        → X h false i v (G.first h) i v
    pub return : {f h : M.Fn} {k : Bool} {g₀ g i j l : M.Global} {t₀ t u v w x y : Fact M} {b c d : G.Block}
        → Y f k g₀ t₀ b g t → Crosses M L A f k (G.events f b) g t i u → (s : M.Site) → G.Call f b s h c
        → CallFlow M L A s h u v → Y h false i v d j w → Crosses M L A h false (G.events h d) j w l x → G.Ends h d
        → ReturnFlow M L A s f x y → X f k g₀ t₀ c l y
    pub saved : {f h : M.Fn} {k : Bool} {g₀ g i j l : M.Global} {t₀ t w : Fact M} {o : M.Obj} {z : Option M.State}
        {b c d : G.Block}
        → Y f k g₀ t₀ b g t → Crosses M L A f k (G.events f b) g t i (HasObject o z) → (s : M.Site) → G.Call f b s h c
        → Y h false i NoObject d j w → Crosses M L A h false (G.events h d) j w l NoObject → G.Ends h d
        → L.out s o ≡ None → X f k g₀ t₀ c l (HasObject o z)

  -- nothing follows from the entries that isn't among them
  abbrev pub IsSaturated : (M.Fn → Bool → M.Global → Fact M → G.Block → M.Global → Fact M → Type 0) → Type 0
  IsSaturated X = LeadsInKind X X

  -- a report of an entry
  pub record ShownInKind (X : M.Fn → Bool → M.Global → Fact M → G.Block → M.Global → Fact M → Type 0)
      (r : M.Report) : Type 0 where
    pub fn : M.Fn
    pub is_root : Bool
    pub global₀ : M.Global
    pub fact₀ : Fact M
    pub block : G.Block
    pub global : M.Global
    pub fact : Fact M
    pub entry : X fn is_root global₀ fact₀ block global fact
    pub shows : Shows M L A fn is_root r (G.events fn block) global fact
