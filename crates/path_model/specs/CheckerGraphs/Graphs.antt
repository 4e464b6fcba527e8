-- THE FLOW GRAPHS of a program under a checker: one for each of its functions, by the function's number.
use Rattle.std.specs.Prelude.{◌≡◌, ℕ, suc, List, [], ◌∷◌, length, slice_get, cond, Option, None, Some, false, AllPairs, ⊤}
use Rattle.std.specs.Option.{option_map}
use Rattle.flow_graph.specs.CPaths.Building.{Graph, graph_of}
use Rattle.flow_graph.specs.CPaths.BlockGraphs.{block_graphs}
use Rattle.flow_graph.specs.CPaths.Facts.{Facts}
use Rattle.flow_graph.specs.CPaths.SoundGraphs.{IsSoundGraph}
use Rattle.flow_graph.specs.CPaths.Traces.{Definition}
use Rattle.type_rules.specs.Functions.{Defined}
use Rattle.type_rules.specs.Options.{if_there, ◌>?◌}
use Rattle.path_model.specs.CheckerModel.Checkers.{model}
use Rattle.path_model.specs.CheckerModel.Happenings.{Function}
use Rattle.path_model.specs.CheckerModel.Reports.{Checker}
use Rattle.path_model.specs.CheckerPrograms.Roots.{followed_into, IsRootFunction}
use Rattle.path_model.specs.CheckerPrograms.Texts.{functions_in, function_of, same_place, defines, with_close, definition_of, flow_facts, happening, site}
use Rattle.typed_unit.specs.Texts.{Text}
use Rattle.flow_graph.specs.Bodies.{HasTraces}
use Rattle.path_theory.specs.FlowGraphs.{FlowGraphs}

-- the number of a function
abbrev pub number_of : List Defined → Function → Option ℕ
number_of [] f = None
number_of (d ∷ ds) f = cond (defines d f) (Some 0) (option_map suc (number_of ds f))

-- the function with this number
abbrev pub function_at : List Text → ℕ → Option Function
function_at ts n = option_map function_of (slice_get (functions_in ts) n)

-- THE GRAPH of a function, among those of all functions. What is no function of the program has that of an empty body.
abbrev pub graph_at : List Text → List Graph → Function → Graph
graph_at ts gs f = if_there (number_of (functions_in ts) f >? slice_get gs) (graph_of (flow_facts ts f) (definition_of ts f)) (λ g. g)

-- the graph names its own blocks alone, has each exit alone in its block, and has the traces of this function
pub record IsFlowGraph (F : Facts) (d : Definition) (g : Graph) : Type 0 where
  pub sound : IsSoundGraph g.blocks g.entry
  pub traces : HasTraces g F d

-- the same of a function of the program
abbrev pub IsFlowGraphIn : List Text → Defined → Graph → Type 0
IsFlowGraphIn ts d g = IsFlowGraph (flow_facts ts (function_of d)) (with_close ts d) g

-- THE GRAPHS of a program: of each function one, in their order
pub record AreGraphs (ts : List Text) (gs : List Graph) : Type 0 where
  pub count : length gs ≡ length (functions_in ts)
  pub each : (n : ℕ) (d : Defined) (g : Graph) → slice_get (functions_in ts) n ≡ Some d → slice_get gs n ≡ Some g → IsFlowGraphIn ts d g

-- those of the first of these functions, while they are built
abbrev pub AreFirstGraphs : List Text → List Defined → List Graph → Type 0
AreFirstGraphs ts ds [] = ⊤
AreFirstGraphs ts [] (g ∷ gs) = ⊥
AreFirstGraphs ts (d ∷ ds) (g ∷ gs) = IsFlowGraphIn ts d g × AreFirstGraphs ts ds gs

-- no two functions stand at one place
abbrev pub AreApartPlaces : List Defined → Type 0
AreApartPlaces ds = AllPairs (λ d e. same_place d.place e.place ≡ false) ds

-- THE PROGRAM IN BLOCKS, as the theory of paths takes it
abbrev pub flow_graphs : (c : Checker) → List Text → List Graph → FlowGraphs (model c)
flow_graphs c ts gs = block_graphs (model c) (happening ts) (site c.depth ts) (graph_at ts gs) (IsRootFunction c.machine ts) (λ f s. followed_into c.machine s)
