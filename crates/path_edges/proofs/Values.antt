-- Edges, contexts and waiters stand for those of the theory, and each of these that follows has a value.
use Rattle.std.proofs.Common.{◌≡◌, ℕ, List, None, Some, refl, sym, ap, ◌∙◌, subst}
use Rattle.c_objects.specs.Objects.{Object}
use Rattle.flow_graph.specs.CPaths.Building.{Graph}
use Rattle.flow_graph.specs.CPaths.Events.{Event}
use Rattle.flow_graph.specs.CPaths.Fragments.{Has}
use Rattle.flow_graph.specs.CPaths.Graphs.{Calls}
use Rattle.c_tree.specs.Node.{Node}
use Rattle.type_rules.specs.Options.{if_there, ◌>?◌}
use Rattle.path_model.specs.CheckerGraphs.Graphs.{function_at, graph_at}
use Rattle.path_model.specs.CheckerModel.Choices.{State}
use Rattle.path_model.specs.CheckerModel.Happenings.{Function, Site}
use Rattle.path_model.specs.CheckerModel.Reports.{Checker}
use Rattle.masked_paths.specs.Masked.{SiteIn}
use Rattle.path_model.specs.CheckerPrograms.Texts.{site}
use Rattle.typed_unit.specs.Texts.{Text}
use Rattle.path_edges.specs.declared.edges.Context.{Context}
use Rattle.path_edges.specs.declared.edges.Edge.{Edge}
use Rattle.path_edges.specs.declared.edges.Waiter.{Waiter}
use Rattle.path_edges.specs.Edges.{tuple_in, context_in, edge_in, waiter_in, call_site_at, no_site, site_at}
use Rattle.path_model.specs.CheckerGraphs.Ends.{call_in, call_at}
use Rattle.block_flows.specs.Masks.{model_under, origins_under, objects_under, graphs_under}
use Rattle.path_edges.proofs.MaskedCalls.{MaskedCall, call-of, site-between}
use Rattle.path_edges.specs.Relations.{Begins, LeadsTo, WaitsAt, IsEndOf, IsWoken}
use Rattle.path_theory.specs.Facts.{FactOf, NoObject, HasObject}
use Rattle.state_tuples.specs.declared.tuple.Tuple.{Tuple}
use Rattle.path_theory.specs.TabulationRules.Rules as rules
use Rattle.path_theory.specs.TabulationRules.OwnValues.{AreSound, AreComplete, StandsFor}

-- the values for what the theory names
abbrev tuple_with : ℕ → FactOf Object State → Tuple
tuple_with g NoObject = record { global = g; object = None; state = None; bare = refl }
tuple_with g (HasObject o x) = record { global = g; object = Some o; state = x; bare = refl }

abbrev tuple_of : rules.Tuple ℕ Object State → Tuple
tuple_of t = tuple_with t.global t.fact

abbrev context_of : rules.Context ℕ Object State → Context
context_of k = record { function = k.function; entry = tuple_of k.entry }

abbrev edge_of : rules.PathEdge ℕ Object State ℕ → Edge
edge_of e = record { context = context_of e.context; is_root = e.is_root; block = e.block; tuple = tuple_of e.tuple }

-- one who waits at this block
abbrev waiter_of : ℕ → rules.Waiter ℕ Object State ℕ (SiteIn Function Site) → Waiter
waiter_of block w = record { context = context_of w.context; is_root = w.is_root; block = block; behind = w.behind; saved = w.saved }

tuple-with : (g : ℕ) (t : FactOf Object State) → tuple_in (tuple_with g t) ≡ record { global = g; fact = t }
tuple-with g NoObject = refl
tuple-with g (HasObject o x) = refl

tuple-there : (t : rules.Tuple ℕ Object State) → tuple_in (tuple_of t) ≡ t
tuple-there t = tuple-with t.global t.fact

context-there : (k : rules.Context ℕ Object State) → context_in (context_of k) ≡ k
context-there k = ap (λ t. record { function = k.function; entry = t }) (tuple-there k.entry)

edge-there : (e : rules.PathEdge ℕ Object State ℕ) → edge_in (edge_of e) ≡ e
edge-there e = λ i. record { context = context-there e.context i; is_root = e.is_root; block = e.block; tuple = tuple-there e.tuple i }

module _ (c : Checker) (ts : List Text) (gs : List Graph) (lists : List (List Object)) where
  -- the site of a call is that at the end of its block
  site-there : (n b : ℕ) (f : Function) (es : List Event) (call : Node) (next : ℕ) → function_at ts n ≡ Some f → Has (graph_at ts gs f).blocks b es (Calls call next)
      → site_at c.depth ts gs n b ≡ site c.depth ts f call
  site-there n b f es call next named has =
      ap (λ o. if_there o no_site (λ f. if_there (call_at (graph_at ts gs f) b) no_site (site c.depth ts f))) named
      ∙ ap (λ o. if_there (o >? λ s. call_in s.ending) no_site (site c.depth ts f)) has

  waiter-there : (block : ℕ) (w : rules.Waiter ℕ Object State ℕ (SiteIn Function Site)) → call_site_at c ts gs w.context.function block ≡ w.site → waiter_in c ts gs (waiter_of block w) ≡ w
  waiter-there block w same = λ i. record { context = context-there w.context i; is_root = w.is_root; site = same i; behind = w.behind; saved = w.saved }

  -- a waiter's site is that of the call in which its edge's block ends
  site-of : (a : Edge) (fn h : Function) (z : SiteIn Function Site) (next : ℕ) (w : rules.Waiter ℕ Object State ℕ (SiteIn Function Site)) → function_at ts a.context.function ≡ Some fn
      → MaskedCall c ts gs lists fn a.block z h next → w.context ≡ context_in a.context → z ≡ w.site → call_site_at c ts gs w.context.function a.block ≡ w.site
  site-of a fn h z next w named masked here same =
      let of = call-of c ts gs lists fn a.block z h next masked in
      let is : site_at c.depth ts gs a.context.function a.block ≡ of.site = site-there a.context.function a.block fn of.call.0 of.call.1 next named of.call.2 ∙ sym of.call.3 in
      ap (λ k. call_site_at c ts gs k.function a.block) here
      ∙ site-between c ts gs a.context.function a.block fn h of.site named is of.call.4
      ∙ sym of.is
      ∙ same

  waiting : (a : Edge) (k : rules.Context ℕ Object State) (w : rules.Waiter ℕ Object State ℕ (SiteIn Function Site))
      → rules.Waits (model_under c ts lists) (origins_under c ts lists) (objects_under c ts lists) (graphs_under c ts gs lists) (function_at ts) (edge_in a) k w → call_site_at c ts gs w.context.function a.block ≡ w.site
  waiting a k w (rules.WaitsForObject t fn h behind call named global flow here kind saved) = site-of a fn h w.site w.behind w behind.named call here refl
  waiting a k w (rules.WaitsWithSaved t fn h o x behind call named entry has kept here kind saved) = site-of a fn h w.site w.behind w behind.named call here refl

  pub sound : AreSound (model_under c ts lists) (origins_under c ts lists) (objects_under c ts lists) (graphs_under c ts gs lists) (function_at ts) edge_in context_in (waiter_in c ts gs)
      (Begins c ts gs lists) (LeadsTo c ts gs lists) (WaitsAt c ts gs lists) (IsEndOf c ts gs lists) (IsWoken c ts gs lists)
  sound = record {
    base = λ e h. h;
    goes = λ a e h. h;
    waits = λ a k w h. h.waits;
    ends = λ e k h. h;
    wakes = λ w e d h. h;
  }

  stands : (P : rules.PathEdge ℕ Object State ℕ → Type 0) (e : rules.PathEdge ℕ Object State ℕ) → P e → StandsFor edge_in (λ d. P (edge_in d)) e
  stands P e h = record { value = edge_of e; is = edge-there e; holds = subst P (sym (edge-there e)) h }

  pub complete : AreComplete (model_under c ts lists) (origins_under c ts lists) (objects_under c ts lists) (graphs_under c ts gs lists) (function_at ts) edge_in context_in (waiter_in c ts gs)
      (Begins c ts gs lists) (LeadsTo c ts gs lists) (WaitsAt c ts gs lists) (IsEndOf c ts gs lists) (IsWoken c ts gs lists)
  complete = record {
    base = λ e h. stands (rules.Base (model_under c ts lists) (origins_under c ts lists) (objects_under c ts lists) (graphs_under c ts gs lists) (function_at ts)) e h;
    goes = λ a e h. stands (rules.Goes (model_under c ts lists) (origins_under c ts lists) (objects_under c ts lists) (graphs_under c ts gs lists) (function_at ts) (edge_in a)) e h;
    waits = λ a k w h.
        let there = waiter-there a.block w (waiting a k w h) in
        let at = subst (λ z. rules.Waits (model_under c ts lists) (origins_under c ts lists) (objects_under c ts lists) (graphs_under c ts gs lists) (function_at ts) (edge_in a) z w) (sym (context-there k)) h in
        let by = subst (λ z. rules.Waits (model_under c ts lists) (origins_under c ts lists) (objects_under c ts lists) (graphs_under c ts gs lists) (function_at ts) (edge_in a) (context_in (context_of k)) z) (sym there) at in
        record { on = context_of k; who = waiter_of a.block w; is_on = context-there k; is_who = there; holds = record { here = refl; waits = by } };
    ends = λ e k h. h;
    wakes = λ w e d h. stands (rules.Wakes (model_under c ts lists) (origins_under c ts lists) (objects_under c ts lists) (graphs_under c ts gs lists) (function_at ts) (waiter_in c ts gs w) (edge_in e)) d h;
  }
