-- What an edge leads to, by how its block ends.
use Rattle.std.proofs.Common.{◌≡◌, ◌↔◌, ℕ, false, List, [], ◌∷◌, map, Option, None, Some, slice_get, refl, sym, ap, subst, ◌∙◌}
use Rattle.std.specs.Prelude.{flat_map}
use Rattle.std.specs.Option.{option_map}
use Rattle.c_objects.specs.Objects.{Object}
use Rattle.flow_graph.specs.CPaths.Building.{Graph}
use Rattle.flow_graph.specs.CPaths.Events.{Event}
use Rattle.flow_graph.specs.CPaths.Fragments.{Has}
use Rattle.flow_graph.specs.CPaths.Graphs.{Block, Ending, ToAny, Calls, Stops}
use Rattle.c_tree.specs.Node.{Node}
use Rattle.type_rules.specs.Options.{◌>?◌}
use Rattle.path_model.specs.CheckerGraphs.Graphs.{function_at, graph_at}
use Rattle.path_model.proofs.CheckerGraphs.Numbers.{one-number}
use Rattle.path_model.specs.CheckerModel.Checkers.{model, origins}
use Rattle.path_model.specs.CheckerModel.Choices.{State}
use Rattle.path_model.specs.CheckerModel.Happenings.{Function}
use Rattle.path_model.specs.CheckerModel.Reports.{Checker}
use Rattle.masked_paths.proofs.StrictFlows.Among.{call_among}
use Rattle.path_model.specs.CheckerPrograms.Roots.{followed_into}
use Rattle.path_model.specs.CheckerPrograms.Texts.{function_of, site}
use Rattle.typed_unit.specs.Texts.{Text}
use Rattle.edge_rules.specs.Entries.{IsEntry}
use Rattle.path_edges.specs.EdgeSteps.Steps.{StandsBehind, EntersBy, IsNext, Onward, Inward, edge_at, frame_edge}
use Rattle.path_edges.proofs.MaskedCalls.{call-of}
use Rattle.block_flows.specs.Masks.{model_under, origins_under, objects_under, graphs_under}
use Rattle.block_flows.specs.FollowedLists.{mask_in}
use Rattle.path_edges.proofs.EdgeSteps.Lists.{exactly-same, exactly-none}
use Rattle.path_edges.proofs.EdgeSteps.Nexts.{leads-next, next-leads, jump-next, passed-next, last-next}
use Rattle.function_tables.specs.declared.engine_tables.frames.Frame.{Frame}
use Rattle.function_tables.specs.declared.engine_tables.tables.Tables.{Tables}
use Rattle.function_tables.specs.EngineTables.Known.{checker_in, texts_in, graphs_in, objects_in}
use Rattle.function_tables.proofs.EngineTables.Places.{IsPlace, named, apart-in, ending-there}
use Rattle.flow_graph.specs.Seen.{graph_in}
use Rattle.least_set.specs.Logs.{IsExactly, SomeGives}
use Rattle.path_edges.specs.declared.edges.Edge.{Edge}
use Rattle.path_edges.specs.Edges.{edge_in}
use Rattle.path_edges.specs.Relations.{LeadsTo}
use Rattle.path_theory.specs.Flows.{CallFlow}
use Rattle.state_tuples.specs.declared.tuple.Tuple.{Tuple}
use Rattle.path_theory.specs.TabulationRules.Rules as rules
use Rattle.block_flows.specs.TupleFlows.Facts.{fact_in, is_in, listed, origins_in}

one-function : (f g : Function) → Some f ≡ Some g → f ≡ g
one-function f g e = cc

nowhere : (f : Function) → None ≡ Some f → ⊥
nowhere f h = cc

one-call : (n m : Node) (next b : ℕ) → Calls n next ≡ Calls m b → n ≡ m
one-call n m next b e = cc

no-block : (o : Option Block) (b : Block) → option_map (λ (x : Block). x.ending) o ≡ None → o ≡ Some b → ⊥
no-block None b e h = cc
no-block (Some a) b e h = cc

pub none-into : {A : Type 0} (g : A → Option Function) (o : Option A) → o ≡ None → None ≡ (o >? g)
none-into g o e = sym (ap (λ x. x >? g) e)

-- an edge in a function that isn't there leads to none
pub no-function-leads : (c : Checker) (ts : List Text) (gs : List Graph) (lists : List (List Object)) (a : Edge) → function_at ts a.context.function ≡ None → IsExactly [] (LeadsTo c ts gs lists a)
no-function-leads c ts gs lists a none = exactly-none (LeadsTo c ts gs lists a) (λ d h. by (edge_in d) h)
  where
    by : (z : rules.PathEdge ℕ Object State ℕ) → rules.Goes (model_under c ts lists) (origins_under c ts lists) (objects_under c ts lists) (graphs_under c ts gs lists) (function_at ts) (edge_in a) z → ⊥
    by z (rules.GoesOn t f b h n) = nowhere f (sym none ∙ h.named)
    by z (rules.GoesInto t f h s b k behind call there global flow) = nowhere f (sym none ∙ behind.named)

module _ (t : Tables) (a : Edge) (f : Frame) (p : IsPlace t a.context.function f) where
  abbrev c : Checker
  c = checker_in t

  abbrev ts : List Text
  ts = texts_in t

  abbrev gs : List Graph
  gs = graphs_in t

  abbrev lists : List (List Object)
  lists = objects_in t

  abbrev fn : Function
  fn = function_of p.defined

  abbrev blocks : List Block
  blocks = (graph_in f.table.now.graph.now).blocks

  abbrev is-named : function_at ts a.context.function ≡ Some fn
  is-named = named t a.context.function p.defined p.is

  -- a block of the function stands in the graph of its table
  has-here : (g : Function) (es : List Event) (end : Ending) → function_at ts a.context.function ≡ Some g → Has (graph_at ts gs g).blocks a.block es end → Has blocks a.block es end
  has-here g es end e h =
      let there = subst (λ (x : Function). Has (graph_at ts gs x).blocks a.block es end) (one-function g fn (sym e ∙ is-named)) h in
      subst (λ (x : Graph). Has x.blocks a.block es end) p.graph there

  -- from a block that isn't there nothing follows
  pub no-block-leads : option_map (λ (b : Block). b.ending) (slice_get blocks a.block) ≡ None → IsExactly [] (LeadsTo c ts gs lists a)
  no-block-leads none = exactly-none (LeadsTo c ts gs lists a) (λ d h. by (edge_in d) h)
    where
      by : (z : rules.PathEdge ℕ Object State ℕ) → rules.Goes (model_under c ts lists) (origins_under c ts lists) (objects_under c ts lists) (graphs_under c ts gs lists) (function_at ts) (edge_in a) z → ⊥
      by z (rules.GoesOn u g b h n) = no-block (slice_get blocks a.block) _ none (has-here g n.0 n.1 h.named n.2)
      by z (rules.GoesInto u g h z' b k behind masked there global flow) =
          let call = (call-of c ts gs lists g a.block z' h b masked).call in
          no-block (slice_get blocks a.block) _ none (has-here g call.0 (Calls call.1 b) behind.named call.2)

  -- what is next by the end of the block is what follows
  next-follows : (end : Ending) (list : List Edge) → option_map (λ (b : Block). b.ending) (slice_get blocks a.block) ≡ Some end → IsExactly list (IsNext c ts gs lists fn end a)
      → IsExactly list (LeadsTo c ts gs lists a)
  next-follows end list e x =
      let block = ending-there blocks a.block end e in
      let has = subst (λ (g : Graph). Has g.blocks a.block block.0 end) (sym p.graph) block.1 in
      exactly-same (IsNext c ts gs lists fn end a) (LeadsTo c ts gs lists a) list x (next-leads c ts gs lists a fn is-named block.0 end has) (leads-next c ts gs lists a fn is-named block.0 end has)

  -- where the function ends
  pub exit-leads : option_map (λ (b : Block). b.ending) (slice_get blocks a.block) ≡ Some Stops → IsExactly [] (LeadsTo c ts gs lists a)
  exit-leads e = next-follows Stops [] e (last-next c ts gs lists a fn)

  module _ (ends : List Tuple) (behind : IsExactly ends (StandsBehind c ts gs lists a)) (list : List Edge) where
    pub jump-leads : (bs : List ℕ) → option_map (λ (b : Block). b.ending) (slice_get blocks a.block) ≡ Some (ToAny bs) → list ≡ flat_map (λ b. map (edge_at a b) ends) bs
        → IsExactly list (LeadsTo c ts gs lists a)
    jump-leads bs e is = next-follows (ToAny bs) list e (subst (λ (l : List Edge). IsExactly l (IsNext c ts gs lists fn (ToAny bs) a)) (sym is) (jump-next c ts gs lists a fn ends behind bs))

    -- at a call that isn't followed
    pub passed-leads : (n : Node) (next : ℕ) → option_map (λ (b : Block). b.ending) (slice_get blocks a.block) ≡ Some (Calls n next) → followed_into c.machine (site c.depth ts fn n) ≡ None
        → list ≡ flat_map (λ b. map (edge_at a b) ends) (next ∷ []) → IsExactly list (LeadsTo c ts gs lists a)
    passed-leads n next e none is =
        next-follows (Calls n next) list e (subst (λ (l : List Edge). IsExactly l (IsNext c ts gs lists fn (Calls n next) a)) (sym is) (passed-next c ts gs lists a fn ends behind n next none))

    -- at a call that is followed into the function with a number
    module _ (n : Node) (next k : ℕ) (g : Frame) (q : IsPlace t k g) (followed : followed_into c.machine (site c.depth ts fn n) ≡ function_at ts k) where
      abbrev callee : Function
      callee = function_of q.defined

      abbrev first : ℕ
      first = (graph_in g.table.now.graph.now).entry

      abbrev Given : Tuple → Edge → Type 0
      Given = IsEntry c (site c.depth ts fn n) callee f.objects.now.keys g.objects.now.keys k first

      is-callee : function_at ts k ≡ Some callee
      is-callee = named t k q.defined q.is

      -- what enters where these objects alone are followed is what enters among those of both functions
      entering-is : (u v : Tuple) → EntersBy c ts gs lists fn (site c.depth ts fn n) callee (fact_in u) (fact_in v)
          ↔ CallFlow (model c) (origins_in c f.objects.now.keys g.objects.now.keys) (listed c g.objects.now.keys) (site c.depth ts fn n) callee (fact_in u) (fact_in v)
      entering-is u v =
          call_among (model c) (origins c) (mask_in c ts lists) refl fn callee (is_in f.objects.now.keys) (is_in g.objects.now.keys) p.follows q.follows
          (site c.depth ts fn n) (fact_in u) (fact_in v)

      entry-next : (d : Edge) → SomeGives Given ends d → IsNext c ts gs lists fn (Calls n next) a d
      entry-next d s =
          let u = s.0 in
          let v = s.2.entry in
          Inward n next k callee u v (behind.0 u s.1) refl (followed ∙ is-callee) is-callee s.2.entered.global ((entering-is u v).1 s.2.entered.fact)
          (ap (λ (z : Graph). frame_edge false k z.entry v) q.graph ∙ s.2.is)

      next-entry : (d : Edge) → IsNext c ts gs lists fn (Calls n next) a d → SomeGives Given ends d
      next-entry d (Onward b u s leads is) = absurd (nowhere callee (sym leads.0 ∙ followed ∙ is-callee))
      next-entry d (Inward m b i h u v s e into there global flow is) =
          let node : n ≡ m = one-call n m next b e in
          let same : h ≡ callee = one-function h callee (sym into ∙ ap (λ (x : Node). followed_into c.machine (site c.depth ts fn x)) (sym node) ∙ followed ∙ is-callee) in
          let number : i ≡ k = one-number ts (apart-in t) i k callee (there ∙ ap (λ (x : Function). Some x) same) is-callee in
          let one = subst (λ (x : Node). EntersBy c ts gs lists fn (site c.depth ts fn x) h (fact_in u) (fact_in v)) (sym node) flow in
          let two = subst (λ (x : Function). EntersBy c ts gs lists fn (site c.depth ts fn n) x (fact_in u) (fact_in v)) same one in
          let edge : frame_edge false k first v ≡ d =
          ap (λ (x : ℕ). frame_edge false x first v) (sym number) ∙ ap (λ (z : Graph). frame_edge false i z.entry v) (sym q.graph) ∙ ap (λ (x : Function). frame_edge false i (graph_at ts gs x).entry v) (sym same) ∙ is in
          (u, behind.1 u s, record { entry = v; entered = record { global = global; fact = (entering-is u v).0 two }; is = edge })

      pub followed-leads : option_map (λ (b : Block). b.ending) (slice_get blocks a.block) ≡ Some (Calls n next) → IsExactly list (SomeGives Given ends) → IsExactly list (LeadsTo c ts gs lists a)
      followed-leads e x = next-follows (Calls n next) list e (exactly-same (SomeGives Given ends) (IsNext c ts gs lists fn (Calls n next) a) list x entry-next next-entry)
