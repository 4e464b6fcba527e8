-- The numbers, graphs and definitions of the functions of numbered units, as a program has them.
use Rattle.std.proofs.Common.{◌≡◌, ℕ, List, Some, slice_get, Bor, ◌∙◌, ap}
use Rattle.std.specs.Option.{option_map}
use Rattle.flow_graph.specs.CPaths.Building.{Graph}
use Rattle.type_rules.specs.Functions.{Defined}
use Rattle.path_model.specs.CheckerGraphs.Graphs.{graph_at}
use Rattle.path_model.proofs.CheckerGraphs.Numbers.{graph-at, definition-at, one-number}
use Rattle.path_model.proofs.CheckerGraphs.Units.{functions-are, definition-is, apart-texts}
use Rattle.path_model.specs.CheckerModel.Happenings.{Function}
use Rattle.path_model.specs.CheckerPrograms.Texts.{functions_in, function_of, definition_of}
use Rattle.typed_unit.specs.Texts.{texts_of}
use Rattle.call_graph.specs.FunctionGraphs.Bodies.{definition_in}
use Rattle.call_graph.specs.OfPrograms.Definitions.{AreNumbered, definitions, trees_in}
use Rattle.typed_unit.specs.declared.typed_unit.TypedUnit.{TypedUnit}

module _ (units : List (Bor TypedUnit)) (numbered : AreNumbered units) where
  at-text : (n : ℕ) (d : Defined) → slice_get (definitions (trees_in units)) n ≡ Some d → slice_get (functions_in (texts_of units)) n ≡ Some d
  at-text n d e = ap (λ (fs : List Defined). slice_get fs n) (functions-are units) ∙ e

  pub unit-graph-at : (gs : List Graph) (n : ℕ) (d : Defined) (g : Graph) → slice_get (definitions (trees_in units)) n ≡ Some d → slice_get gs n ≡ Some g → graph_at (texts_of units) gs (function_of d) ≡ g
  unit-graph-at gs n d g e k = graph-at (texts_of units) (apart-texts units numbered) gs n d g (at-text n d e) k

  pub unit-definition-at : (n : ℕ) (d : Defined) → slice_get (definitions (trees_in units)) n ≡ Some d → definition_of (texts_of units) (function_of d) ≡ definition_in units d
  unit-definition-at n d e = definition-at (texts_of units) (apart-texts units numbered) n d (at-text n d e) ∙ definition-is units d

  -- different numbers are those of different functions
  pub unit-one-number : (m n : ℕ) (d e : Defined) → slice_get (definitions (trees_in units)) m ≡ Some d → slice_get (definitions (trees_in units)) n ≡ Some e → function_of d ≡ function_of e → m ≡ n
  unit-one-number m n d e a b s =
      one-number (texts_of units) (apart-texts units numbered) m n (function_of e)
      (ap (option_map function_of) (at-text m d a) ∙ ap (λ (f : Function). Some f) s)
      (ap (option_map function_of) (at-text n e b))
