-- Entries as values, and what follows from one or two of them: the log of an engine is the least set of entries under
-- these steps.
-- What an engine owes of its log stands here without a word on paths: it has the base, nothing follows that it lacks,
-- and it has no others.
use Rattle.std.specs.Prelude.{◌≡◌, Option, None}
use Rattle.path_theory.specs.Model.{Model}
use Rattle.path_theory.specs.Origins.{Origins}
use Rattle.path_theory.specs.Facts.{NoObject, HasObject, Fact, Objects}
use Rattle.path_theory.specs.Flows.{Starts, CallFlow, ReturnFlow}
use Rattle.path_theory.specs.FlowGraphs.{FlowGraphs}
use Rattle.path_theory.specs.BlockEdges.{Crosses}
use Rattle.path_theory.specs.Merged.{Kinds}

module _ (M : Model) (G : FlowGraphs M) where
  -- at the head of this block stands this tuple, in a frame of the function that was entered with that one
  pub record Entry : Type 0 where
    pub fn : M.Fn
    pub global₀ : M.Global
    pub fact₀ : Fact M
    pub block : G.Block
    pub global : M.Global
    pub fact : Fact M

  -- the entries of a set, as a relation
  abbrev pub among : (Entry → Type 0) → M.Fn → M.Global → Fact M → G.Block → M.Global → Fact M → Type 0
  among X f g₀ t₀ b g t = X (record { fn = f; global₀ = g₀; fact₀ = t₀; block = b; global = g; fact = t })

  -- another entry of the same context
  abbrev pub entry_at : Entry → G.Block → M.Global → Fact M → Entry
  entry_at e b g t = record { fn = e.fn; global₀ = e.global₀; fact₀ = e.fact₀; block = b; global = g; fact = t }

module _ (M : Model) (L : Origins M) (A : Objects M) (G : FlowGraphs M) (C : Kinds M G) where
  -- the entries from which all others follow
  pub data Base : Entry M G → Type 0 where
    BaseRoot : {f : M.Fn} {t : Fact M} → G.IsRoot f → Starts M L A f t
        → Base (record { fn = f; global₀ = M.start; fact₀ = t; block = G.first f; global = M.start; fact = t })

  -- the end of an entry's block, with the kind of frame of its context
  abbrev pub EndsIn : Entry M G → M.Global → Fact M → Type 0
  EndsIn e i u = Crosses M L A e.fn (C.kind e.fn e.global₀ e.fact₀) (G.events e.fn e.block) e.global e.fact i u

  -- what follows from two entries: from the first alone, or from a caller at a call and its callee at an end
  pub data Step : Entry M G → Entry M G → Entry M G → Type 0 where
    StepNext : (e x : Entry M G) (i : M.Global) (u : Fact M) (c : G.Block) → EndsIn e i u → G.Next e.fn e.block c
        → Step e x (entry_at M G e c i u)
    StepCall : (e x : Entry M G) (i : M.Global) (u v : Fact M) (s : M.Site) (h : M.Fn) (c : G.Block) → EndsIn e i u
        → G.Call e.fn e.block s h c → CallFlow M L A s h u v
        → Step e x (record { fn = h; global₀ = i; fact₀ = v; block = G.first h; global = i; fact = v })
    StepReturn : (e x : Entry M G) (u y : Fact M) (s : M.Site) (c : G.Block) → EndsIn e x.global₀ u
        → G.Call e.fn e.block s x.fn c → CallFlow M L A s x.fn u x.fact₀ → G.Ends x.fn x.block
        → ReturnFlow M L A s e.fn x.fact y → Step e x (entry_at M G e c x.global y)
    StepSaved : (e x : Entry M G) (o : M.Obj) (z : Option M.State) (s : M.Site) (c : G.Block)
        → EndsIn e x.global₀ (HasObject o z) → G.Call e.fn e.block s x.fn c → x.fact₀ ≡ NoObject → x.fact ≡ NoObject
        → G.Ends x.fn x.block → L.out s o ≡ None → Step e x (entry_at M G e c x.global (HasObject o z))

  pub data Least : Entry M G → Type 0 where
    OfBase : {c : Entry M G} → Base c → Least c
    OfStep : {a b c : Entry M G} → Least a → Least b → Step a b c → Least c

  -- the set is the least one
  pub record IsLeastLog (X : Entry M G → Type 0) : Type 0 where
    pub base : (c : Entry M G) → Base c → X c
    pub closed : (a b c : Entry M G) → X a → X b → Step a b c → X c
    pub only : (c : Entry M G) → X c → Least c
