-- One graph after the other, as a loop over the functions builds them.
use Rattle.std.proofs.Common.{◌≡◌, ℕ, ◌+◌, ◌<◌, List, [], ◌∷◌, ◌++◌, map, length, Some, slice_get, Bor, ◌∙◌, sym, ap, subst, arith}
use Rattle.std.proofs.lemmas.List.{length-append, length-map, map-append}
use Rattle.flow_graph.specs.CPaths.SoundGraphs.{IsSoundGraph}
use Rattle.type_rules.specs.Functions.{Defined}
use Rattle.path_model.specs.CheckerGraphs.Graphs.{AreGraphs, AreFirstGraphs}
use Rattle.path_model.proofs.CheckerGraphs.Building.{graphs-next, graphs-all}
use Rattle.typed_unit.specs.Texts.{texts_of}
use Rattle.flow_graph.specs.Bodies.{HasTraces}
use Rattle.flow_graph.specs.declared.graph.Graph.{Graph}
use Rattle.flow_graph.specs.Seen.{graph_in}
use Rattle.call_graph.specs.FunctionGraphs.Bodies.{definition_in}
use Rattle.call_graph.specs.FunctionGraphs.Known.{facts_in}
use Rattle.call_graph.specs.OfPrograms.Definitions.{definitions, trees_in}
use Rattle.function_tables.proofs.OneByOne.{there}
use Rattle.typed_unit.specs.declared.typed_unit.TypedUnit.{TypedUnit}

pub count-next : (old new : List Graph) (g : Graph) (n : ℕ) → length old ≡ n → new ≡ old ++ (g ∷ []) → length new ≡ n + 1
count-next old new g n c e = ap length e ∙ length-append old (g ∷ []) ∙ ap (λ (m : ℕ). m + 1) c

module _ (units : List (Bor TypedUnit)) where
  abbrev pub AreGathered : List Graph → Type 0
  AreGathered gs = ∥ AreFirstGraphs (texts_of units) (definitions (trees_in units)) (map (λ g. graph_in g) gs) ∥₁

  -- the graph of the function with the next number
  pub gathered-next : (old new : List Graph) (g : Graph) (n : ℕ) → AreGathered old → length old ≡ n → n < length (definitions (trees_in units)) → new ≡ old ++ (g ∷ []) → IsSoundGraph (graph_in g).blocks (graph_in g).entry
      → ((d : Defined) → slice_get (definitions (trees_in units)) n ≡ Some d → ∥ HasTraces (graph_in g) (facts_in units d.file) (definition_in units d) ∥₁) → AreGathered new
  gathered-next old new g n h c l e s t =
      let x = there (definitions (trees_in units)) n l in
      subst AreGathered (sym e)
      (subst (λ gs. ∥ AreFirstGraphs (texts_of units) (definitions (trees_in units)) gs ∥₁) (sym (map-append (λ g. graph_in g) old (g ∷ [])))
      (graphs-next units (map (λ g. graph_in g) old) x.0 (graph_in g) h (ap (slice_get (definitions (trees_in units))) (length-map old (λ g. graph_in g) ∙ c) ∙ x.1) s (t x.0 x.1)))

  pub gathered-all : (gs : List Graph) → AreGathered gs → length gs ≡ length (definitions (trees_in units)) → ∥ AreGraphs (texts_of units) (map (λ g. graph_in g) gs) ∥₁
  gathered-all gs h e = graphs-all units (map (λ g. graph_in g) gs) h (length-map gs (λ g. graph_in g) ∙ e)
