-- Tabulation as rules of one and of two premises, for an engine that works off one path edge after the other. Functions have numbers.
-- A call leaves a waiter at its callee's context, and each end of that context wakes it.
use Rattle.std.specs.Prelude.{◌≡◌, ℕ, Bool, true, false, Option, None, Some}
use Rattle.path_theory.specs.Model.{Model}
use Rattle.path_theory.specs.Origins.{Origins}
use Rattle.path_theory.specs.Facts.{FactOf, NoObject, HasObject, Fact, Objects}
use Rattle.path_theory.specs.Flows.{Starts, CallFlow, ReturnFlow}
use Rattle.path_theory.specs.FlowGraphs.{FlowGraphs}
use Rattle.path_theory.specs.BlockEdges.{Crosses, Shows}

-- a global state, and no object or one with its state
pub record Tuple (G O S : Type 0) : Type 0 where
  pub global : G
  pub fact : FactOf O S

-- a called frame: its function, and the tuple with which it was entered
pub record Context (G O S : Type 0) : Type 0 where
  pub function : ℕ
  pub entry : Tuple G O S

-- in a frame of this kind that was entered so, this tuple stands at the head of this block
pub record PathEdge (G O S B : Type 0) : Type 0 where
  pub context : Context G O S
  pub is_root : Bool
  pub block : B
  pub tuple : Tuple G O S

-- a frame that waits for the end of a callee: who it is, the call site, the block behind the call, and the object that is saved over the
-- call with its state, where one is; a frame that waits for what the callee hands back has none
pub record Waiter (G O S B C : Type 0) : Type 0 where
  pub context : Context G O S
  pub is_root : Bool
  pub site : C
  pub behind : B
  pub saved : Option (O × Option S)

-- `function` says which function has a number, if one has
module _ (M : Model) (L : Origins M) (A : Objects M) (G : FlowGraphs M) (function : ℕ → Option M.Fn) where
  abbrev pub TupleIn : Type 0
  TupleIn = Tuple M.Global M.Obj M.State

  abbrev pub ContextIn : Type 0
  ContextIn = Context M.Global M.Obj M.State

  abbrev pub EdgeIn : Type 0
  EdgeIn = PathEdge M.Global M.Obj M.State G.Block

  abbrev pub WaiterIn : Type 0
  WaiterIn = Waiter M.Global M.Obj M.State G.Block M.Site

  -- a root's own frame begins in the first global state, without object, and with each object that is followed
  pub record Base (e : EdgeIn) : Type 0 where
    pub fn : M.Fn
    pub named : function e.context.function ≡ Some fn
    pub root : G.IsRoot fn
    pub start : e.context.entry.global ≡ M.start
    pub starts : Starts M L A fn e.context.entry.fact
    pub kind : e.is_root ≡ true
    pub first : e.block ≡ G.first fn
    pub same : e.tuple ≡ e.context.entry

  -- the tuple at the end of an edge's block
  pub record Behind (e : EdgeIn) (t : TupleIn) (fn : M.Fn) : Type 0 where
    pub named : function e.context.function ≡ Some fn
    pub crosses : Crosses M L A fn e.is_root (G.events fn e.block) e.tuple.global e.tuple.fact t.global t.fact

  -- another edge of the same frame
  abbrev pub at : EdgeIn → G.Block → TupleIn → EdgeIn
  at e b t = record { context = e.context; is_root = e.is_root; block = b; tuple = t }

  -- the first edge of a called frame
  abbrev pub entered : ContextIn → G.Block → EdgeIn
  entered k b = record { context = k; is_root = false; block = b; tuple = k.entry }

  -- on to a next block, or into a callee
  pub data Goes (e : EdgeIn) : EdgeIn → Type 0 where
    GoesOn : (t : TupleIn) (fn : M.Fn) (b : G.Block) → Behind e t fn → G.Next fn e.block b → Goes e (at e b t)
    GoesInto : (t : TupleIn) (fn h : M.Fn) (s : M.Site) (b : G.Block) (k : ContextIn) → Behind e t fn → G.Call fn e.block s h b
        → function k.function ≡ Some h → k.entry.global ≡ t.global → CallFlow M L A s h t.fact k.entry.fact → Goes e (entered k (G.first h))

  -- at a call: for what the callee that is entered hands back, and, with an object that is saved, for the callee that is entered without one
  pub data Waits (e : EdgeIn) (k : ContextIn) (w : WaiterIn) : Type 0 where
    WaitsForObject : (t : TupleIn) (fn h : M.Fn) → Behind e t fn → G.Call fn e.block w.site h w.behind
        → function k.function ≡ Some h → k.entry.global ≡ t.global → CallFlow M L A w.site h t.fact k.entry.fact
        → w.context ≡ e.context → w.is_root ≡ e.is_root → w.saved ≡ None → Waits e k w
    WaitsWithSaved : (t : TupleIn) (fn h : M.Fn) (o : M.Obj) (x : Option M.State) → Behind e t fn → G.Call fn e.block w.site h w.behind
        → function k.function ≡ Some h → k.entry ≡ record { global = t.global; fact = NoObject } → t.fact ≡ HasObject o x → L.out w.site o ≡ None
        → w.context ≡ e.context → w.is_root ≡ e.is_root → w.saved ≡ Some (o, x) → Waits e k w

  -- a called frame ends behind its block
  pub record Ends (e : EdgeIn) (k : ContextIn) : Type 0 where
    pub fn : M.Fn
    pub named : function e.context.function ≡ Some fn
    pub ends : G.Ends fn e.block
    pub called : e.is_root ≡ false
    pub context : e.context ≡ k

  -- the tuple behind the call, of the one with which the callee has ended
  pub data Hands (w : WaiterIn) (fn : M.Fn) (end now : TupleIn) : Type 0 where
    HandsBack : w.saved ≡ None → now.global ≡ end.global → ReturnFlow M L A w.site fn end.fact now.fact → Hands w fn end now
    HandsSaved : (o : M.Obj) (x : Option M.State) → w.saved ≡ Some (o, x) → end.fact ≡ NoObject → now.global ≡ end.global → now.fact ≡ HasObject o x
        → Hands w fn end now

  -- at an end the waiter goes on behind its call
  pub record Wakes (w : WaiterIn) (e c : EdgeIn) : Type 0 where
    pub caller : M.Fn
    pub named : function w.context.function ≡ Some caller
    pub fn : M.Fn
    pub end : TupleIn
    pub behind : Behind e end fn
    pub hands : Hands w caller end c.tuple
    pub context : c.context ≡ w.context
    pub kind : c.is_root ≡ w.is_root
    pub block : c.block ≡ w.behind

  -- a set of edges, seen with functions themselves
  pub record Seen (X : EdgeIn → Type 0) (f : M.Fn) (k : Bool) (g₀ : M.Global) (t₀ : Fact M) (b : G.Block) (g : M.Global) (t : Fact M) : Type 0 where
    pub number : ℕ
    pub named : function number ≡ Some f
    pub among : X (record {
      context = record { function = number; entry = record { global = g₀; fact = t₀ } };
      is_root = k;
      block = b;
      tuple = record { global = g; fact = t };
    })

  -- an edge shows a report of an event of its block
  pub record ShowsReport (e : EdgeIn) (r : M.Report) : Type 0 where
    pub fn : M.Fn
    pub named : function e.context.function ≡ Some fn
    pub shows : Shows M L A fn e.is_root r (G.events fn e.block) e.tuple.global e.tuple.fact
