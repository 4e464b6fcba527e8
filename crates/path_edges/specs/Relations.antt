-- WHAT FOLLOWS, over an engine's values: what does by the rules of tabulation for those for which they stand, where the objects of these lists
-- alone are followed.
use Rattle.std.specs.Prelude.{◌≡◌, List, Contains}
use Rattle.c_objects.specs.Objects.{Object}
use Rattle.flow_graph.specs.CPaths.Building.{Graph}
use Rattle.path_model.specs.CheckerGraphs.Graphs.{function_at}
use Rattle.path_model.specs.CheckerModel.Reports.{Checker}
use Rattle.typed_unit.specs.Texts.{Text}
use Rattle.path_edges.specs.declared.edges.Context.{Context}
use Rattle.path_edges.specs.declared.edges.Edge.{Edge}
use Rattle.path_edges.specs.declared.edges.Waiter.{Waiter}
use Rattle.path_edges.specs.Edges.{context_in, edge_in, waiter_in}
use Rattle.block_flows.specs.Masks.{model_under, origins_under, objects_under, graphs_under}
use Rattle.least_set.specs.TwoPremises.{Follows, Least}
use Rattle.report_model.specs.declared.report.Report.{Report}
use Rattle.path_theory.specs.TabulationRules.Rules.{Base, Goes, Waits, Ends, Wakes, ShowsReport}

module _ (c : Checker) (ts : List Text) (gs : List Graph) (lists : List (List Object)) where
  abbrev pub Begins : Edge → Type 0
  Begins e = Base (model_under c ts lists) (origins_under c ts lists) (objects_under c ts lists) (graphs_under c ts gs lists) (function_at ts) (edge_in e)

  abbrev pub LeadsTo : Edge → Edge → Type 0
  LeadsTo a e = Goes (model_under c ts lists) (origins_under c ts lists) (objects_under c ts lists) (graphs_under c ts gs lists) (function_at ts) (edge_in a) (edge_in e)

  -- who waits stands at the block that ends in the call
  pub record WaitsAt (a : Edge) (k : Context) (w : Waiter) : Type 0 where
    pub here : w.block ≡ a.block
    pub waits : Waits (model_under c ts lists) (origins_under c ts lists) (objects_under c ts lists) (graphs_under c ts gs lists) (function_at ts) (edge_in a) (context_in k) (waiter_in c ts gs w)

  abbrev pub IsEndOf : Edge → Context → Type 0
  IsEndOf e k = Ends (model_under c ts lists) (origins_under c ts lists) (objects_under c ts lists) (graphs_under c ts gs lists) (function_at ts) (edge_in e) (context_in k)

  abbrev pub IsWoken : Waiter → Edge → Edge → Type 0
  IsWoken w e d = Wakes (model_under c ts lists) (origins_under c ts lists) (objects_under c ts lists) (graphs_under c ts gs lists) (function_at ts) (waiter_in c ts gs w) (edge_in e) (edge_in d)

  -- an edge shows a report of an event of its block
  abbrev pub ShowsAt : Edge → Report → Type 0
  ShowsAt e r = ShowsReport (model_under c ts lists) (origins_under c ts lists) (objects_under c ts lists) (graphs_under c ts gs lists) (function_at ts) (edge_in e) r

  -- THE RULES OF THE ENGINE: what is known of them is that they hold somehow, since what is known of a program's texts is known so
  abbrev pub MayFollow : List Edge → Edge → Type 0
  MayFollow = Follows (λ e. ∥ Begins e ∥₁) (λ a e. ∥ LeadsTo a e ∥₁) (λ a k w. ∥ WaitsAt a k w ∥₁) (λ e k. ∥ IsEndOf e k ∥₁) (λ w e d. ∥ IsWoken w e d ∥₁)

  abbrev pub MayBeLeast : Edge → Type 0
  MayBeLeast = Least (λ e. ∥ Begins e ∥₁) (λ a e. ∥ LeadsTo a e ∥₁) (λ a k w. ∥ WaitsAt a k w ∥₁) (λ e k. ∥ IsEndOf e k ∥₁) (λ w e d. ∥ IsWoken w e d ∥₁)

  -- the list has what follows, and nothing else
  abbrev pub IsClosedLog : List Edge → Type 0
  IsClosedLog log = (e : Edge) → MayFollow log e → Contains log e

  abbrev pub IsLeastLog : List Edge → Type 0
  IsLeastLog log = (e : Edge) → Contains log e → MayBeLeast e
