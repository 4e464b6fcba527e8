-- The tables of functions.
use Rattle.std.proofs.Common.{◌≡◌, ℕ, ◌+◌, ◌<◌, ◌≤◌, List, [], ◌∷◌, ◌++◌, map, length, take, get_or, Some, slice_get, Bor, refl, sym, ap, ◌∙◌, subst, arith}
use Rattle.std.proofs.Math.Logic.{∥∥₁_elim, ∥∥₁_map, ∥∥₁_map₂}
use Rattle.std.proofs.lemmas.List.{length-map, map-append, take_all}
use Rattle.std.proofs.lemmas.Option.{same_Some, slice_get-map, slice_get_read}
use Rattle.std.proofs.lemmas.Slice.Zip.{AllZip-long}
use Rattle.std.specs.Coded.{Coded-set, codes}
use Rattle.std.specs.List.{AllZip}
use Rattle.std.specs.Option.{option_map}
use Rattle.flow_graph.specs.CPaths.Building as building
use Rattle.type_rules.specs.Functions.{Defined}
use Rattle.path_model.specs.CheckerGraphs.Graphs.{IsFlowGraphIn, AreGraphs}
use Rattle.path_model.proofs.CheckerGraphs.Units.{functions-are, place-filed}
use Rattle.path_model.specs.CheckerPrograms.Texts.{functions_in}
use Rattle.typed_unit.specs.Texts.{Text, texts_of}
use Rattle.flow_graph.specs.declared.graph.Graph.{Graph}
use Rattle.flow_graph.specs.Seen.{graph_in}
use Rattle.function_tables.specs.declared.table.FunctionTable.{FunctionTable}
use Rattle.function_tables.specs.Tables.{AreBlockTables, IsFunctionTable, AreTables}
use Rattle.function_tables.proofs.OneByOne.{zip-next, zip-all, zip-at, zip-map, there, taken-next}
use Rattle.metal_tree.specs.MetalMachines.Machine.{Machine}
use Rattle.call_graph.specs.OfPrograms.Definitions.{definitions, trees_in}
use Rattle.typed_unit.specs.declared.functions.TypedFunction.{TypedFunction}
use Rattle.typed_unit.specs.declared.typed_unit.TypedUnit.{TypedUnit}
use Rattle.typed_unit.specs.Functions.{function_of}

number-set : (x y : ℕ) → IsProp (x ≡ y)
number-set = Coded-set (hlevel codes)

-- a function that is known to be one of the program is named in its own file
pub filed : (units : List (Bor TypedUnit)) (n : ℕ) (f : TypedFunction) → ∥ slice_get (definitions (trees_in units)) n ≡ Some (function_of f) ∥₁ → f.place.file ≡ f.file
filed units n f h = ∥∥₁_elim h (number-set _ _) (λ e. place-filed (trees_in units) n (function_of f) e)

-- all tables together
tables-are : (m : Machine) (depth : ℕ) (ts : List Text) (tables : List FunctionTable) → AllZip (IsFunctionTable m depth ts) (functions_in ts) tables → AreTables m depth ts tables
tables-are m depth ts tables h = record {
  graphs = record {
    count = length-map tables (λ (t : FunctionTable). graph_in t.graph.now) ∙ AllZip-long (IsFunctionTable m depth ts) (functions_in ts) tables h;
    each = λ n d g e k. zip-at (IsFlowGraphIn ts) (functions_in ts) (map (λ (t : FunctionTable). graph_in t.graph.now) tables) n d g
        (zip-map (IsFunctionTable m depth ts) (IsFlowGraphIn ts) (λ (t : FunctionTable). graph_in t.graph.now) (λ x t r. r.graph) (functions_in ts) tables h) e k;
  };
  blocks = λ n d t e k. (zip-at (IsFunctionTable m depth ts) (functions_in ts) tables n d t h e k).blocks;
}

-- the tables of the first functions have the graphs of these
abbrev pub HaveFirst : List Graph → ℕ → List FunctionTable → Type 0
HaveFirst gs n tables = map (λ (t : FunctionTable). graph_in t.graph.now) tables ≡ take n (map (λ g. graph_in g) gs)

pub graph-read : (gs : List Graph) (n : ℕ) (g : Graph) → n < length gs → g ≡ get_or gs n g → slice_get gs n ≡ Some g
graph-read gs n g l e = slice_get_read gs (length gs) n g refl l e

graph-there : (gs : List Graph) (n : ℕ) (g : Graph) → slice_get gs n ≡ Some g → slice_get (map (λ g. graph_in g) gs) n ≡ Some (graph_in g)
graph-there gs n g e = slice_get-map (λ g. graph_in g) gs n ∙ ap (option_map (λ g. graph_in g)) e

-- one graph more
pub graphs-next : (gs : List Graph) (n : ℕ) (g : Graph) (t : FunctionTable) (old new : List FunctionTable) → slice_get gs n ≡ Some g → graph_in t.graph.now ≡ graph_in g → new ≡ old ++ (t ∷ []) → HaveFirst gs n old → HaveFirst gs (n + 1) new
graphs-next gs n g t old new at same e h =
    let view : FunctionTable → building.Graph = λ t. graph_in t.graph.now in
    taken-next (map (λ g. graph_in g) gs) n (graph_in g) (graph-there gs n g at) (map view old) (map view new)
    (ap (map view) e ∙ map-append view old (t ∷ []) ∙ ap (λ x. map view old ++ (x ∷ [])) same) h

-- those of all functions
pub graphs-all : (gs : List Graph) (n : ℕ) (tables : List FunctionTable) → length gs ≤ n → HaveFirst gs n tables → map (λ (t : FunctionTable). graph_in t.graph.now) tables ≡ map (λ g. graph_in g) gs
graphs-all gs n tables l h =
    let c = length-map gs (λ g. graph_in g) in
    h ∙ take_all n (map (λ g. graph_in g) gs) (omega (arith, l, c))

module _ (units : List (Bor TypedUnit)) (gs : List Graph) (are : ∥ AreGraphs (texts_of units) (map (λ g. graph_in g) gs) ∥₁) where
  -- each function has a graph
  pub graphs-counted : length gs ≡ length (definitions (trees_in units))
  graphs-counted = ∥∥₁_elim are (number-set _ _) (λ a. sym (length-map gs (λ g. graph_in g)) ∙ a.count ∙ ap length (functions-are units))

  -- the graph at the place of a function is its graph
  pub graph-known : (n : ℕ) (g : Graph) → slice_get gs n ≡ Some g → (d : Defined) → slice_get (definitions (trees_in units)) n ≡ Some d → ∥ IsFlowGraphIn (texts_of units) d (graph_in g) ∥₁
  graph-known n g at d e = ∥∥₁_map are (λ a. a.each n d (graph_in g) (ap (λ ds. slice_get ds n) (functions-are units) ∙ e) (graph-there gs n g at))

module _ (m : Machine) (depth : ℕ) (units : List (Bor TypedUnit)) where
  -- the table of a function, of which the program says which it is
  pub function-table : (n : ℕ) (f : TypedFunction) (t : FunctionTable) → ∥ slice_get (definitions (trees_in units)) n ≡ Some (function_of f) ∥₁
      → ((d : Defined) → slice_get (definitions (trees_in units)) n ≡ Some d → ∥ IsFlowGraphIn (texts_of units) d (graph_in t.graph.now) ∥₁)
      → AreBlockTables m depth (texts_of units) (function_of f) (graph_in t.graph.now).blocks t.blocks.items
      → (d : Defined) → slice_get (definitions (trees_in units)) n ≡ Some d → ∥ IsFunctionTable m depth (texts_of units) d t ∥₁
  function-table n f t is graph blocks d e = ∥∥₁_map₂ is (graph d e) (λ i g. record {
    graph = g;
    blocks = subst (λ (x : Defined). AreBlockTables m depth (texts_of units) x (graph_in t.graph.now).blocks t.blocks.items) (same_Some (function_of f) d (sym i ∙ e)) blocks;
  })

  -- the tables of the first functions
  abbrev pub AreFirst : ℕ → List FunctionTable → Type 0
  AreFirst n tables = ∥ AllZip (IsFunctionTable m depth (texts_of units)) (take n (definitions (trees_in units))) tables ∥₁

  -- one function more
  pub tables-next : (n : ℕ) (t : FunctionTable) (old new : List FunctionTable) → n < length (definitions (trees_in units)) → new ≡ old ++ (t ∷ [])
      → ((d : Defined) → slice_get (definitions (trees_in units)) n ≡ Some d → ∥ IsFunctionTable m depth (texts_of units) d t ∥₁) → AreFirst n old → AreFirst (n + 1) new
  tables-next n t old new l e k h =
      let x = there (definitions (trees_in units)) n l in
      ∥∥₁_map₂ h (k x.0 x.1) (λ a b. zip-next (IsFunctionTable m depth (texts_of units)) (definitions (trees_in units)) old new n x.0 t x.1 e a b)

  -- those of all functions
  pub tables-all : (n : ℕ) (tables : List FunctionTable) → length (definitions (trees_in units)) ≤ n → AreFirst n tables → ∥ AreTables m depth (texts_of units) tables ∥₁
  tables-all n tables l h = ∥∥₁_map h (λ a. tables-are m depth (texts_of units) tables
      (subst (λ (ds : List Defined). AllZip (IsFunctionTable m depth (texts_of units)) ds tables) (sym (functions-are units))
      (zip-all (IsFunctionTable m depth (texts_of units)) (definitions (trees_in units)) tables n l a)))
