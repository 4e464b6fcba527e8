-- Graphs that are built one after the other are the graphs of the program.
use Rattle.std.proofs.Common.{◌≡◌, ℕ, zero, suc, List, [], ◌∷◌, ◌++◌, length, Some, slice_get, Bor, sym, subst}
use Rattle.std.proofs.Math.Logic.{∥∥₁_elim, ∥∥₁_map}
use Rattle.flow_graph.specs.CPaths.Building.{Graph}
use Rattle.flow_graph.specs.CPaths.Facts.{Facts}
use Rattle.flow_graph.specs.CPaths.SoundGraphs.{IsSoundGraph}
use Rattle.type_rules.specs.Functions.{Defined}
use Rattle.path_model.specs.CheckerGraphs.Graphs.{IsFlowGraphIn, AreGraphs, AreFirstGraphs}
use Rattle.path_model.proofs.CheckerGraphs.Units.{facts-are, definition-is, functions-are}
use Rattle.path_model.specs.CheckerPrograms.Texts.{functions_in, with_close}
use Rattle.typed_unit.specs.Texts.{Text, texts_of}
use Rattle.flow_graph.specs.Bodies.{HasTraces}
use Rattle.call_graph.specs.FunctionGraphs.Bodies.{definition_in}
use Rattle.call_graph.specs.FunctionGraphs.Known.{facts_in}
use Rattle.call_graph.specs.OfPrograms.Definitions.{definitions, trees_in}
use Rattle.typed_unit.specs.declared.typed_unit.TypedUnit.{TypedUnit}

first-push : (ts : List Text) (ds : List Defined) (gs : List Graph) (d : Defined) (g : Graph) → AreFirstGraphs ts ds gs → slice_get ds (length gs) ≡ Some d → IsFlowGraphIn ts d g → AreFirstGraphs ts ds (gs ++ (g ∷ []))
first-push ts [] [] d g h e k = cc
first-push ts [] (x ∷ gs) d g h e k = h
first-push ts (f ∷ ds) [] d g h e k = let s : f ≡ d = cc in (subst (λ (y : Defined). IsFlowGraphIn ts y g) (sym s) k, tt)
first-push ts (f ∷ ds) (x ∷ gs) d g h e k = (h.0, first-push ts ds gs d g h.1 e k)

first-at : (ts : List Text) (ds : List Defined) (gs : List Graph) (n : ℕ) (d : Defined) (g : Graph) → AreFirstGraphs ts ds gs → slice_get ds n ≡ Some d → slice_get gs n ≡ Some g → IsFlowGraphIn ts d g
first-at ts ds [] n d g h e k = cc
first-at ts [] (x ∷ gs) n d g h e k = absurd h
first-at ts (f ∷ ds) (x ∷ gs) zero d g h e k =
    let s : f ≡ d = cc in
    let t : x ≡ g = cc in
    subst (λ (y : Defined). IsFlowGraphIn ts y g) s (subst (λ (y : Graph). IsFlowGraphIn ts f y) t h.0)
first-at ts (f ∷ ds) (x ∷ gs) (suc n) d g h e k = first-at ts ds gs n d g h.1 e k

-- the graphs of all functions
pub all-graphs : (ts : List Text) (gs : List Graph) → AreFirstGraphs ts (functions_in ts) gs → length gs ≡ length (functions_in ts) → AreGraphs ts gs
all-graphs ts gs h e = record { count = e; each = λ n d g j k. first-at ts (functions_in ts) gs n d g h j k }

module _ (units : List (Bor TypedUnit)) where
  -- a graph that was built for a function of the units
  pub graph-built : (n : ℕ) (d : Defined) (g : Graph) → slice_get (definitions (trees_in units)) n ≡ Some d → IsSoundGraph g.blocks g.entry → HasTraces g (facts_in units d.file) (definition_in units d) → IsFlowGraphIn (texts_of units) d g
  graph-built n d g e s t = record {
    sound = s;
    traces = subst (λ (F : Facts). HasTraces g F (with_close (texts_of units) d)) (sym (facts-are units n d e)) (subst (HasTraces g (facts_in units d.file)) (sym (definition-is units d)) t);
  }

  -- one graph more
  pub graphs-next : (gs : List Graph) (d : Defined) (g : Graph) → ∥ AreFirstGraphs (texts_of units) (definitions (trees_in units)) gs ∥₁ → slice_get (definitions (trees_in units)) (length gs) ≡ Some d
      → IsSoundGraph g.blocks g.entry → ∥ HasTraces g (facts_in units d.file) (definition_in units d) ∥₁ → ∥ AreFirstGraphs (texts_of units) (definitions (trees_in units)) (gs ++ (g ∷ [])) ∥₁
  graphs-next gs d g h e s t =
      ∥∥₁_elim h squash₁
      (λ x. ∥∥₁_map t (λ y. first-push (texts_of units) (definitions (trees_in units)) gs d g x e (graph-built (length gs) d g e s y)))

  -- as many as there are functions
  pub graphs-all : (gs : List Graph) → ∥ AreFirstGraphs (texts_of units) (definitions (trees_in units)) gs ∥₁ → length gs ≡ length (definitions (trees_in units)) → ∥ AreGraphs (texts_of units) gs ∥₁
  graphs-all gs h e =
      ∥∥₁_map h
      (λ x. all-graphs (texts_of units) gs
      (subst (λ (fs : List Defined). AreFirstGraphs (texts_of units) fs gs) (sym (functions-are units)) x)
      (subst (λ (fs : List Defined). length gs ≡ length fs) (sym (functions-are units)) e))
