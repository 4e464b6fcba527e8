-- The events of a path stand in the texts of their functions, and these are functions of the program.
use Rattle.std.proofs.Common.{◌≡◌, ◌⊎◌, ℕ, zero, suc, List, [], ◌∷◌, map, slice_get, Bool, true, false, cond, Option, None, Some, inl, inr, refl, sym, ap, subst, ◌∙◌}
use Rattle.std.proofs.lemmas.Bool.{eq-eqb}
use Rattle.std.specs.Prelude.{⊤}
use Rattle.std.specs.Option.{option_map}
use Rattle.c_tree.specs.Node.{Node}
use Rattle.type_rules.specs.Functions.{Defined}
use Rattle.type_rules.specs.Options.{◌>?◌}
use Rattle.call_graph.specs.Followed.{machine_calls}
use Rattle.call_graph.specs.OfPrograms.Calls.{body_called}
use Rattle.flow_graph.specs.CPaths.BlockGraphs.{events_at, block_graphs}
use Rattle.flow_graph.specs.CPaths.Building.{Graph, graph_of}
use Rattle.flow_graph.specs.CPaths.Events.{Event, Exited, Item}
use Rattle.flow_graph.specs.CPaths.Fragments.{Has}
use Rattle.flow_graph.specs.CPaths.Graphs.{Block, Calls}
use Rattle.flow_graph.specs.CPaths.Occurrences.{InFlow, InEvents, InEnding, InGraph}
use Rattle.flow_graph.specs.CPaths.TreeFlow.{flow_of}
use Rattle.flow_graph.proofs.CPaths.BuiltGraphs.{built_traces}
use Rattle.flow_graph.proofs.CPaths.BuiltTexts.{built_graph_text}
use Rattle.flow_graph.proofs.CPaths.EngineGraphs.{blocks_have_steps}
use Rattle.flow_graph.proofs.CPaths.SoundDrafts.{built_graph_sound}
use Rattle.path_theory.specs.FlowGraphs.{FlowGraphs, supergraph}
use Rattle.path_theory.specs.Marks.{EventMark, CallMark}
use Rattle.path_theory.specs.Callers.{Callers, NoCaller, Waiting}
use Rattle.path_theory.specs.Paths.{Path, Begin, Skip, Go, Call, Return}
use Rattle.path_theory.specs.Relevant.{EventOf, CallOf}
use Rattle.path_theory.specs.Supergraph.{Supergraph}
use Rattle.path_theory.specs.Walks.{HasTraces}
use Rattle.path_theory.proofs.BlockEvents.{IsIn, event_in_block, call_in_block}
use Rattle.path_theory.proofs.Known.{event_of}
use Rattle.path_theory.proofs.Splitting.{split}
use Rattle.path_model.specs.CheckerModel.Checkers.{model}
use Rattle.path_model.specs.CheckerModel.Happenings.{Function, Happening, Site}
use Rattle.path_model.specs.CheckerModel.Reports.{Checker}
use Rattle.path_model.specs.CheckerPrograms.Paths.{program}
use Rattle.path_model.specs.CheckerPrograms.Roots.{followed_into, IsRootFunction}
use Rattle.path_model.specs.CheckerPrograms.Texts.{functions_in, function_of, defines, defined_as, definition_of, flow_facts, happening, site, type_table}
use Rattle.path_model.proofs.CheckerGraphs.Numbers.{defines-is}
use Rattle.path_model.proofs.CheckerGraphs.SameTraces.{event_on, call_on}
use Rattle.typed_unit.specs.Texts.{Text}

-- an event that stands in a block's list, as a model names it
in-list : {E : Type 0} (g : Event → E) (e : E) (es : List Event) → IsIn e (map g es) → (i : Event) × (e ≡ g i) × InEvents (EventMark i) es
in-list g e [] h = absurd h
in-list g e (i ∷ es) (inl h) = (i, h, inl refl)
in-list g e (i ∷ es) (inr h) = let x = in-list g e es h in (x.0, x.1, inr x.2)

in-block : {E : Type 0} (g : Event → E) (e : E) (ss : List Block) (b : ℕ) → IsIn e (map g (events_at (slice_get ss b))) → (i : Event) × (e ≡ g i) × InGraph (EventMark i) ss
in-block g e [] b h = absurd h
in-block g e (s ∷ ss) zero h = let x = in-list g e s.events h in (x.0, x.1, inl (inl x.2))
in-block g e (s ∷ ss) (suc b) h = let x = in-block g e ss b h in (x.0, x.1, inr x.2)

-- a call in which a block ends
in-ends : (n : Node) (ss : List Block) (b c : ℕ) (es : List Event) → Has ss b es (Calls n c) → InGraph (CallMark n) ss
in-ends n [] b c es h = cc
in-ends n (s ∷ ss) zero c es h = let same : record { events = es; ending = Calls n c } ≡ s = cc in inl (inr (subst (λ (x : Block). InEnding (CallMark n) x.ending) same refl))
in-ends n (s ∷ ss) (suc b) c es h = inr (in-ends n ss b c es h)

-- the first definition of a function
pub record IsDefined (ds : List Defined) (f : Function) : Type 0 where
  pub number : ℕ
  pub defined : Defined
  pub numbered : slice_get ds number ≡ Some defined
  pub first : defined_as ds f ≡ Some defined
  pub same : function_of defined ≡ f

defines-itself : (d : Defined) → defines d (function_of d) ≡ true
defines-itself d = rw (eq-eqb d.place.file d.place.file refl) (rw (eq-eqb d.place.token d.place.token refl) (eq-eqb d.name d.name refl))

is-defined : (ds : List Defined) (n : ℕ) (d : Defined) → slice_get ds n ≡ Some d → IsDefined ds (function_of d)
is-defined [] n d e = cc
is-defined (x ∷ ds) n d e = by (λ m. is-defined ds m d) (defines x (function_of d)) refl n e
  where
    here : defines x (function_of d) ≡ true → IsDefined (x ∷ ds) (function_of d)
    here q = record { number = 0; defined = x; numbered = refl; first = ap (λ b. cond b (Some x) (defined_as ds (function_of d))) q; same = defines-is x (function_of d) q }

    by : ((m : ℕ) → slice_get ds m ≡ Some d → IsDefined ds (function_of d)) → (b : Bool) → defines x (function_of d) ≡ b → (m : ℕ) → slice_get (x ∷ ds) m ≡ Some d → IsDefined (x ∷ ds) (function_of d)
    by later true q m k = here q
    by later false q zero k = let s : x ≡ d = cc in here (subst (λ (y : Defined). defines y (function_of d) ≡ true) (sym s) (defines-itself d))
    by later false q (suc m) k =
        let w = later m k in
        record { number = suc w.number; defined = w.defined; numbered = w.numbered; first = ap (λ b. cond b (Some x) (defined_as ds (function_of d))) q ∙ w.first; same = w.same }

module _ (c : Checker) (ts : List Text) where
  abbrev K : Supergraph (model c)
  K = program c ts

  abbrev graph : Function → Graph
  graph f = graph_of (flow_facts ts f) (definition_of ts f)

  abbrev in_blocks : FlowGraphs (model c)
  in_blocks = block_graphs (model c) (happening ts) (site c.depth ts) graph (IsRootFunction c.machine ts) (λ f s. followed_into c.machine s)

  same_traces : HasTraces (model c) (program c ts) (supergraph (model c) in_blocks)
  same_traces =
      (blocks_have_steps (model c) (flow_facts ts) (definition_of ts) (happening ts) (site c.depth ts) graph (IsRootFunction c.machine ts) (λ f s. followed_into c.machine s)
      (λ f. built_graph_sound (flow_facts ts f) (definition_of ts f))
      (λ f. built_traces (flow_facts ts f) (definition_of ts f))).0

  -- it stands in the function's text, or is the exit at the closing brace
  pub record IsInText (f : Function) (h : Happening) : Type 0 where
    pub event : Event
    pub is : h ≡ happening ts f event
    pub stands : InFlow (EventMark event) (flow_of (flow_facts ts f) (definition_of ts f).place (definition_of ts f).body) ⊎ (◌≡◌ {A = Item} (EventMark event) (EventMark (Exited (definition_of ts f).place (definition_of ts f).close)))

  pub event-in-text : (f : Function) (h : Happening) → EventOf (model c) (program c ts) f h → IsInText f h
  event-in-text f h e =
      let b = event_in_block (model c) in_blocks (event_on (model c) (program c ts) (supergraph (model c) in_blocks) same_traces e) in
      let x = in-block (happening ts f) h (graph f).blocks b.0 b.1 in
      record { event = x.0; is = x.1; stands = built_graph_text (flow_facts ts f) (definition_of ts f) (EventMark x.0) x.2 }

  -- a followed call stands there too
  pub record IsCallInText (f : Function) (s : Site) : Type 0 where
    pub call : Node
    pub is : s ≡ site c.depth ts f call
    pub stands : InFlow (CallMark call) (flow_of (flow_facts ts f) (definition_of ts f).place (definition_of ts f).body)

  pub call-in-text : (f g : Function) (s : Site) → CallOf (model c) (program c ts) f s g → IsCallInText f s
  call-in-text f g s w =
      let b = call_in_block (model c) in_blocks (call_on (model c) (program c ts) (supergraph (model c) in_blocks) same_traces w) in
      let x = b.2 in
      record { call = x.1; is = x.3; stands = by x.1 (built_graph_text (flow_facts ts f) (definition_of ts f) (CallMark x.1) (in-ends x.1 (graph f).blocks b.0 b.1 x.0 x.2)) }
    where
      -- the mark of a call is no event
      by : (n : Node) → InFlow (CallMark n) (flow_of (flow_facts ts f) (definition_of ts f).place (definition_of ts f).body) ⊎ (◌≡◌ {A = Item} (CallMark n) (EventMark (Exited (definition_of ts f).place (definition_of ts f).close)))
          → InFlow (CallMark n) (flow_of (flow_facts ts f) (definition_of ts f).place (definition_of ts f).body)
      by n (inl i) = i
      by n (inr e) = cc

  -- THE EVENT OF A PATH
  pub path-event : {f : Function} {k : Bool} {p q : K.Place} {b : Callers (model c) (program c ts)} → Path (model c) (program c ts) f k p b → (h : Happening) → K.Goes f p h q → IsInText f h
  path-event {f = f} P h g = let w = split (model c) (program c ts) P in event-in-text f h (event_of (model c) (program c ts) w.run h g)

  -- THE FUNCTIONS OF A PATH: that of its last frame, and those of the frames below
  abbrev Below : Callers (model c) (program c ts) → Type 0
  Below NoCaller = ⊤
  Below (Waiting f k s q b) = IsDefined (functions_in ts) f × Below b

  abbrev followed_in : Option Function → Option Function
  followed_in o = o >? λ h. cond (machine_calls h.name c.machine) None (Some h)

  -- what is followed is a function of the program
  from-position : (o : Option ℕ) (h : Function) → followed_in (option_map function_of (o >? slice_get (functions_in ts))) ≡ Some h → IsDefined (functions_in ts) h
  from-position None h e = cc
  from-position (Some n) h e = by (slice_get (functions_in ts) n) refl e
    where
      only : (x : Function) (b : Bool) → cond b None (Some x) ≡ Some h → x ≡ h
      only x true e = cc
      only x false e = cc

      by : (o : Option Defined) → slice_get (functions_in ts) n ≡ o → followed_in (option_map function_of o) ≡ Some h → IsDefined (functions_in ts) h
      by None k e = cc
      by (Some d) k e = subst (IsDefined (functions_in ts)) (only (function_of d) (machine_calls d.name c.machine) e) (is-defined (functions_in ts) n d k)

  callee-defined : (f h : Function) (n : Node) (s : Site) → s ≡ site c.depth ts f n → followed_into c.machine s ≡ Some h → IsDefined (functions_in ts) h
  callee-defined f h n s e k =
      from-position (body_called (type_table ts f.place.file) f.place.file (functions_in ts) n) h (ap (followed_into c.machine) (sym e) ∙ k)

  pub defined-frames : {f : Function} {k : Bool} {p : K.Place} {b : Callers (model c) (program c ts)} → Path (model c) (program c ts) f k p b → IsDefined (functions_in ts) f × Below b
  defined-frames (Begin r) = (subst (IsDefined (functions_in ts)) (sym r.named) (is-defined (functions_in ts) r.number r.defined r.is), tt)
  defined-frames (Skip P t) = defined-frames P
  defined-frames (Go P e t) = defined-frames P
  defined-frames (Call {f = f} P s h t) = (callee-defined f h t.0.0 s t.0.4 t.1, defined-frames P)
  defined-frames (Return s P t) = (defined-frames P).1
