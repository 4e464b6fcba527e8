-- What an edge leads to, by how its block ends.
use Rattle.std.proofs.Common.{◌≡◌, inl, inr, ℕ, false, List, [], ◌∷◌, map, Contains, None, Some, refl, sym, ap, subst, ◌∙◌}
use Rattle.std.specs.Prelude.{flat_map}
use Rattle.c_objects.specs.Objects.{Object}
use Rattle.flow_graph.specs.CPaths.BlockGraphs.{LeadsTo}
use Rattle.flow_graph.specs.CPaths.Events.{Event}
use Rattle.flow_graph.specs.CPaths.Fragments.{Has}
use Rattle.flow_graph.specs.CPaths.Building.{Graph}
use Rattle.flow_graph.specs.CPaths.Graphs.{Block, Ending, ToAny, Calls, Stops}
use Rattle.c_tree.specs.Node.{Node}
use Rattle.path_model.specs.CheckerGraphs.Graphs.{function_at, graph_at}
use Rattle.path_model.specs.CheckerModel.Choices.{State}
use Rattle.path_model.specs.CheckerModel.Happenings.{Function, Site}
use Rattle.path_model.specs.CheckerModel.Reports.{Checker}
use Rattle.masked_paths.specs.Masked.{SiteIn}
use Rattle.path_model.specs.CheckerPrograms.Roots.{followed_into}
use Rattle.path_model.specs.CheckerPrograms.Texts.{site}
use Rattle.typed_unit.specs.Texts.{Text}
use Rattle.least_set.specs.Logs.{IsExactly}
use Rattle.path_edges.specs.declared.edges.Edge.{Edge}
use Rattle.path_edges.specs.Edges.{edge_in, tuple_in, context_in}
use Rattle.block_flows.specs.Masks.{between, graphs_under, model_under, objects_under, origins_under}
use Rattle.path_edges.specs.Relations as relations
use Rattle.path_edges.proofs.MaskedCalls.{call-of, masked-call}
use Rattle.path_theory.specs.Facts.{FactOf}
use Rattle.path_theory.specs.Flows.{CallFlow}
use Rattle.path_edges.specs.EdgeSteps.Steps.{StandsBehind, IsNext, Onward, Inward, edge_at, frame_edge}
use Rattle.path_edges.proofs.EdgeSteps.Lists.{contains-map, map-contains, contains-flat, flat-contains, exactly-none, among-contains, contains-among}
use Rattle.path_edges.proofs.EdgeSteps.Views.{edge-seen, tuple_with, tuple-there}
use Rattle.state_tuples.specs.declared.tuple.Tuple.{Tuple}
use Rattle.path_theory.specs.TabulationRules.Rules as rules
use Rattle.block_flows.specs.TupleFlows.Facts.{fact_in}

one-function : (f g : Function) → Some f ≡ Some g → f ≡ g
one-function f g e = cc

one-block : (a b : Block) → Some a ≡ Some b → a ≡ b
one-block a b e = cc

module _ (c : Checker) (ts : List Text) (gs : List Graph) (lists : List (List Object)) (a : Edge) where
  abbrev Ba : rules.Tuple ℕ Object State → Function → Type 0
  Ba t f = rules.Behind (model_under c ts lists) (origins_under c ts lists) (objects_under c ts lists) (graphs_under c ts gs lists) (function_at ts) (edge_in a) t f

  -- a tuple of the theory at the end of the block has a value there
  stands : (t : rules.Tuple ℕ Object State) (f : Function) → Ba t f → StandsBehind c ts gs lists a (tuple_with t.global t.fact)
  stands t f h = record { fn = f; behind = subst (λ z. Ba z f) (sym (tuple-there t)) h }

  module _ (fn : Function) (named : function_at ts a.context.function ≡ Some fn) (es : List Event) (end : Ending) (has : Has (graph_at ts gs fn).blocks a.block es end) where
    same-function : (f : Function) → function_at ts a.context.function ≡ Some f → f ≡ fn
    same-function f e = one-function f fn (sym e ∙ named)

    same-ending : (f : Function) (es' : List Event) (end' : Ending) → f ≡ fn → Has (graph_at ts gs f).blocks a.block es' end' → end' ≡ end
    same-ending f es' end' s h =
        let there = subst (λ (z : Function). Has (graph_at ts gs z).blocks a.block es' end') s h in
        ap (λ (b : Block). b.ending) (one-block (record { events = es'; ending = end' }) (record { events = es; ending = end }) (sym there ∙ has))

    -- the facts at the entry of a callee, by the call with both functions, and by what is called here
    abbrev EntersAt : SiteIn Function Site → Function → FactOf Object State → FactOf Object State → Type 0
    EntersAt = CallFlow (model_under c ts lists) (origins_under c ts lists) (objects_under c ts lists)

    abbrev Enters : Node → Function → FactOf Object State → FactOf Object State → Type 0
    Enters n h = EntersAt (between fn (site c.depth ts fn n) h) h

    abbrev Unfollowed : Function → Node → Type 0
    Unfollowed f n = followed_into c.machine (site c.depth ts f n) ≡ None

    next-of : (d : Edge) (z : rules.PathEdge ℕ Object State ℕ) → rules.Goes (model_under c ts lists) (origins_under c ts lists) (objects_under c ts lists) (graphs_under c ts gs lists) (function_at ts) (edge_in a) z → z ≡ edge_in d → IsNext c ts gs lists fn end a d
    next-of d z (rules.GoesOn t f b h n) e =
        let s = same-function f h.named in
        let u = tuple_with t.global t.fact in
        let leads = subst (λ (x : Ending). LeadsTo (Unfollowed fn) x b) (same-ending f n.0 n.1 s n.2) (subst (λ (g : Function). LeadsTo (Unfollowed g) n.1 b) s n.3) in
        Onward b u (stands t f h) leads (edge-seen (edge_at a b u) d (ap (λ x. record { context = context_in a.context; is_root = a.is_root; block = b; tuple = x }) (tuple-there t) ∙ e))
    next-of d z (rules.GoesInto t f h z' b k behind masked named global flow) e =
        let same = same-function f behind.named in
        let u = tuple_with t.global t.fact in
        let v = tuple_with k.entry.global k.entry.fact in
        let of = call-of c ts gs lists f a.block z' h b masked in
        let call = of.call in
        let there : of.site ≡ site c.depth ts fn call.1 = call.3 ∙ ap (λ (g : Function). site c.depth ts g call.1) same in
        let followed = subst (λ (x : Site). followed_into c.machine x ≡ Some h) there call.4 in
        let whole : z' ≡ between fn (site c.depth ts fn call.1) h = of.is ∙ (λ i. between (same i) (there i) h) in
        let one = subst (λ x. EntersAt x h t.fact k.entry.fact) whole flow in
        let two = subst (λ x. Enters call.1 h x k.entry.fact) (sym (ap (λ x. x.fact) (tuple-there t))) one in
        let three = subst (λ x. Enters call.1 h (fact_in u) x) (sym (ap (λ x. x.fact) (tuple-there k.entry))) two in
        let globals = ap (λ x. x.global) (tuple-there k.entry) ∙ global ∙ sym (ap (λ x. x.global) (tuple-there t)) in
        let first = (graph_at ts gs h).entry in
        let seen = ap (λ x. record { context = record { function = k.function; entry = x }; is_root = false; block = first; tuple = x }) (tuple-there k.entry) ∙ e in
        Inward call.1 b k.function h u v (stands t f behind) (sym (same-ending f call.0 (Calls call.1 b) same call.2)) followed named globals three
        (edge-seen (frame_edge false k.function first v) d seen)

    pub leads-next : (d : Edge) → relations.LeadsTo c ts gs lists a d → IsNext c ts gs lists fn end a d
    leads-next d h = next-of d (edge_in d) h refl

    pub next-leads : (d : Edge) → IsNext c ts gs lists fn end a d → relations.LeadsTo c ts gs lists a d
    next-leads d (Onward b u s leads is) =
        let same = same-function s.fn s.behind.named in
        let behind = subst (λ (f : Function). Ba (tuple_in u) f) same s.behind in
        subst (λ (x : Edge). relations.LeadsTo c ts gs lists a x) is (rules.GoesOn (tuple_in u) fn b behind (es, end, has, leads))
    next-leads d (Inward n next k h u v s ends followed there global flow is) =
        let same = same-function s.fn s.behind.named in
        let behind = subst (λ (f : Function). Ba (tuple_in u) f) same s.behind in
        let call = subst (λ (x : Ending). Has (graph_at ts gs fn).blocks a.block es x) ends has in
        subst (λ (x : Edge). relations.LeadsTo c ts gs lists a x) is
        (rules.GoesInto (tuple_in u) fn h (between fn (site c.depth ts fn n) h) next (context_in (frame_edge false k (graph_at ts gs h).entry v).context) behind
        (masked-call c ts gs lists fn a.block (site c.depth ts fn n) h next (es, n, call, refl, followed)) there global flow)

  -- ---- what is next, as a list

  module _ (fn : Function) (ends : List Tuple) (behind : IsExactly ends (StandsBehind c ts gs lists a)) where
    goto-next : (bs : List ℕ) (end : Ending) → ((b : ℕ) → Contains bs b → LeadsTo (λ n. followed_into c.machine (site c.depth ts fn n) ≡ None) end b)
        → ((b : ℕ) → LeadsTo (λ n. followed_into c.machine (site c.depth ts fn n) ≡ None) end b → Contains bs b)
        → ((d : Edge) (n : Node) (next : ℕ) (h : Function) → end ≡ Calls n next → followed_into c.machine (site c.depth ts fn n) ≡ Some h → ⊥)
        → IsExactly (flat_map (λ b. map (edge_at a b) ends) bs) (IsNext c ts gs lists fn end a)
    goto-next bs end to from never = (
      λ d m.
          let x = flat-contains (λ b. map (edge_at a b) ends) bs d m in
          let y = map-contains (edge_at a x.0) ends d x.2 in
          Onward x.0 y.0 (behind.0 y.0 y.1) (to x.0 x.1) y.2,
      λ d q. by d q,
    )
      where
        by : (d : Edge) → IsNext c ts gs lists fn end a d → Contains (flat_map (λ b. map (edge_at a b) ends) bs) d
        by d (Onward b u s leads is) =
            contains-flat (λ x. map (edge_at a x) ends) bs b d (from b leads) (subst (λ (x : Edge). Contains (map (edge_at a b) ends) x) is (contains-map (edge_at a b) ends u (behind.1 u s)))
        by d (Inward n next k h u v s e followed there global flow is) = absurd (never d n next h e followed)

    -- a jump leads to its targets
    pub jump-next : (bs : List ℕ) → IsExactly (flat_map (λ b. map (edge_at a b) ends) bs) (IsNext c ts gs lists fn (ToAny bs) a)
    jump-next bs = goto-next bs (ToAny bs) (λ b h. contains-among bs b h) (λ b h. among-contains bs b h) (λ d n next h e f. cc)

    -- a call that isn't followed leads on
    pub passed-next : (n : Node) (next : ℕ) → followed_into c.machine (site c.depth ts fn n) ≡ None → IsExactly (flat_map (λ b. map (edge_at a b) ends) (next ∷ [])) (IsNext c ts gs lists fn (Calls n next) a)
    passed-next n next none = goto-next (next ∷ []) (Calls n next)
        (λ b h. elim (contains-among (next ∷ []) b h) [ inl e ↦ (none, e) | inr x ↦ absurd x ])
        (λ b h. among-contains (next ∷ []) b (inl h.1))
        (λ d m x h e f. let same : n ≡ m = cc in nowhere h (sym none ∙ ap (λ (y : Node). followed_into c.machine (site c.depth ts fn y)) same ∙ f))
      where
        nowhere : (h : Function) → None ≡ Some h → ⊥
        nowhere h e = cc

  -- nothing is next where the function ends
  pub last-next : (fn : Function) → IsExactly [] (IsNext c ts gs lists fn Stops a)
  last-next fn = exactly-none (IsNext c ts gs lists fn Stops a) (λ d q. by d q)
    where
      by : (d : Edge) → IsNext c ts gs lists fn Stops a d → ⊥
      by d (Onward b u s leads is) = leads
      by d (Inward n next k h u v s e followed there global flow is) = cc
