-- Entries by function and entry tuple alone: a context that a root begins is followed in the root's own frame, and a
-- called frame with the same entry tuple isn't followed apart.
-- So a return reads what stands at the head of the block that ends the frame, where both kinds of frame still agree.
use Rattle.std.specs.Prelude.{◌≡◌, Bool, true, Option, Some, None}
use Rattle.path_theory.specs.Model.{Model}
use Rattle.path_theory.specs.Origins.{Origins}
use Rattle.path_theory.specs.Facts.{NoObject, HasObject, Fact, Objects}
use Rattle.path_theory.specs.Flows.{Starts, CallFlow, ReturnFlow}
use Rattle.path_theory.specs.FlowGraphs.{FlowGraphs}
use Rattle.path_theory.specs.BlockEdges.{Crosses, Shows}

-- nothing is known of an object
abbrev pub IsUnknown : (M : Model) → Fact M → Type 0
IsUnknown M NoObject = Unit {0}
IsUnknown M (HasObject o None) = Unit {0}
IsUnknown M (HasObject o (Some x)) = ⊥

-- the kind of frame in which a context is followed: a root's own exactly where it begins as a root's own frame does
pub record Kinds (M : Model) (G : FlowGraphs M) : Type 0 where
  pub kind : M.Fn → M.Global → Fact M → Bool
  pub of_root : {f : M.Fn} (t : Fact M) → G.IsRoot f → IsUnknown M t → kind f M.start t ≡ true
  pub is_root : {f : M.Fn} {g : M.Global} {t : Fact M} → kind f g t ≡ true
      → G.IsRoot f × (g ≡ M.start) × IsUnknown M t

module _ (M : Model) (L : Origins M) (A : Objects M) (G : FlowGraphs M) (C : Kinds M G) where
  -- what follows in one step from the entries Y is among the entries X
  pub record Leads (Y X : M.Fn → M.Global → Fact M → G.Block → M.Global → Fact M → Type 0) : Type 0 where
    pub root : {f : M.Fn} {t : Fact M} → G.IsRoot f → Starts M L A f t → X f M.start t (G.first f) M.start t
    pub next : {f : M.Fn} {g₀ g i : M.Global} {t₀ t u : Fact M} {b c : G.Block} → Y f g₀ t₀ b g t
        → Crosses M L A f (C.kind f g₀ t₀) (G.events f b) g t i u → G.Next f b c → X f g₀ t₀ c i u
    pub call : {f h : M.Fn} {g₀ g i : M.Global} {t₀ t u v : Fact M} {b c : G.Block} → Y f g₀ t₀ b g t
        → Crosses M L A f (C.kind f g₀ t₀) (G.events f b) g t i u → (s : M.Site) → G.Call f b s h c
        → CallFlow M L A s h u v → X h i v (G.first h) i v
    pub return : {f h : M.Fn} {g₀ g i j : M.Global} {t₀ t u v w y : Fact M} {b c d : G.Block} → Y f g₀ t₀ b g t
        → Crosses M L A f (C.kind f g₀ t₀) (G.events f b) g t i u → (s : M.Site) → G.Call f b s h c
        → CallFlow M L A s h u v → Y h i v d j w → G.Ends h d → ReturnFlow M L A s f w y → X f g₀ t₀ c j y
    pub saved : {f h : M.Fn} {g₀ g i j : M.Global} {t₀ t : Fact M} {o : M.Obj} {z : Option M.State} {b c d : G.Block}
        → Y f g₀ t₀ b g t → Crosses M L A f (C.kind f g₀ t₀) (G.events f b) g t i (HasObject o z) → (s : M.Site)
        → G.Call f b s h c → Y h i NoObject d j NoObject → G.Ends h d → L.out s o ≡ None → X f g₀ t₀ c j (HasObject o z)

  -- nothing follows from the entries that isn't among them
  abbrev pub IsSaturatedMerged : (M.Fn → M.Global → Fact M → G.Block → M.Global → Fact M → Type 0) → Type 0
  IsSaturatedMerged X = Leads X X

  -- a report of an entry
  pub record Shown (X : M.Fn → M.Global → Fact M → G.Block → M.Global → Fact M → Type 0) (r : M.Report) : Type 0 where
    pub fn : M.Fn
    pub global₀ : M.Global
    pub fact₀ : Fact M
    pub block : G.Block
    pub global : M.Global
    pub fact : Fact M
    pub entry : X fn global₀ fact₀ block global fact
    pub shows : Shows M L A fn (C.kind fn global₀ fact₀) r (G.events fn block) global fact
