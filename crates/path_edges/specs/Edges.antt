-- WHAT AN ENGINE'S VALUES STAND FOR.
use Rattle.std.specs.Prelude.{ℕ, List, [], None}
use Rattle.c_objects.specs.Objects.{Object}
use Rattle.flow_graph.specs.CPaths.Building.{Graph}
use Rattle.type_rules.specs.Options.{if_there}
use Rattle.masked_paths.specs.Masked.{SiteIn}
use Rattle.path_model.specs.CheckerGraphs.Ends.{call_at}
use Rattle.path_model.specs.CheckerGraphs.Graphs.{function_at, graph_at}
use Rattle.path_model.specs.CheckerModel.Choices.{State}
use Rattle.path_model.specs.CheckerModel.Happenings.{Function, Site}
use Rattle.path_model.specs.CheckerModel.Reports.{Checker}
use Rattle.path_model.specs.CheckerPrograms.Roots.{followed_into}
use Rattle.path_model.specs.CheckerPrograms.Texts.{site}
use Rattle.typed_unit.specs.Texts.{Text}
use Rattle.path_edges.specs.declared.edges.Context.{Context}
use Rattle.path_edges.specs.declared.edges.Edge.{Edge}
use Rattle.path_edges.specs.declared.edges.Waiter.{Waiter}
use Rattle.state_tuples.specs.declared.tuple.Tuple.{Tuple}
use Rattle.path_theory.specs.TabulationRules.Rules as rules
use Rattle.block_flows.specs.TupleFlows.Facts.{fact_in}

abbrev pub tuple_in : Tuple → rules.Tuple ℕ Object State
tuple_in t = record { global = t.global; fact = fact_in t }

abbrev pub context_in : Context → rules.Context ℕ Object State
context_in k = record { function = k.function; entry = tuple_in k.entry }

abbrev pub edge_in : Edge → rules.PathEdge ℕ Object State ℕ
edge_in e = record { context = context_in e.context; is_root = e.is_root; block = e.block; tuple = tuple_in e.tuple }

-- a site at which nothing is passed, where there is none
abbrev pub no_site : Site
no_site = record { callee = None; formals = []; actuals = [] }

-- a function that is asked for nothing, where there is none
abbrev pub no_function : Function
no_function = record { place = record { file = 0; token = 0 }; name = 0 }

-- the function in which a waiter stands
abbrev pub caller_at : List Text → ℕ → Function
caller_at ts n = if_there (function_at ts n) no_function (λ f. f)

-- the site of the call in which this block of this function ends
abbrev pub site_at : ℕ → List Text → List Graph → ℕ → ℕ → Site
site_at depth ts gs n b = if_there (function_at ts n) no_site (λ f. if_there (call_at (graph_at ts gs f) b) no_site (site depth ts f))

-- the function into which that call is followed; its own, where it is followed into none
abbrev pub callee_at : Checker → List Text → List Graph → ℕ → ℕ → Function
callee_at c ts gs n b = if_there (followed_into c.machine (site_at c.depth ts gs n b)) (caller_at ts n) (λ h. h)

-- the site with both functions
abbrev pub call_site_at : Checker → List Text → List Graph → ℕ → ℕ → SiteIn Function Site
call_site_at c ts gs n b = record { caller = caller_at ts n; site = site_at c.depth ts gs n b; callee = callee_at c ts gs n b }

abbrev pub waiter_in : Checker → List Text → List Graph → Waiter → rules.Waiter ℕ Object State ℕ (SiteIn Function Site)
waiter_in c ts gs w = record {
  context = context_in w.context;
  is_root = w.is_root;
  site = call_site_at c ts gs w.context.function w.block;
  behind = w.behind;
  saved = w.saved;
}
