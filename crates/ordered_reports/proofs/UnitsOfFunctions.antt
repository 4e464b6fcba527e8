-- The unit of a function by the function's number.
use Rattle.std.proofs.Common.{◌≡◌, ℕ, ◌≤◌, List, length, None, Some, slice_get, Bor, sym, ap, ◌∙◌}
use Rattle.std.proofs.Math.Logic.{∥∥₁_elim}
use Rattle.std.proofs.lemmas.Option.{same_Some, slice_get_past}
use Rattle.std.specs.Coded.{Coded-set, codes}
use Rattle.type_rules.specs.Functions.{Defined}
use Rattle.path_model.proofs.CheckerGraphs.Units.{functions-are, place-filed}
use Rattle.path_model.specs.CheckerPrograms.Texts.{functions_in}
use Rattle.typed_unit.specs.Texts.{texts_of}
use Rattle.call_graph.specs.OfPrograms.Definitions.{definitions, trees_in}
use Rattle.typed_unit.specs.declared.functions.TypedFunction.{TypedFunction}
use Rattle.typed_unit.specs.declared.typed_unit.TypedUnit.{TypedUnit}
use Rattle.typed_unit.specs.Functions.{function_of}

number-set : (x y : ℕ) → IsProp (x ≡ y)
number-set = Coded-set (hlevel codes)

module _ (units : List (Bor TypedUnit)) (n : ℕ) where
  by-units : slice_get (functions_in (texts_of units)) n ≡ slice_get (definitions (trees_in units)) n
  by-units = ap (λ (ds : List Defined). slice_get ds n) (functions-are units)

  -- a function of which the program says which it is
  in-file : (f : TypedFunction) (d : Defined) → slice_get (definitions (trees_in units)) n ≡ Some d → slice_get (definitions (trees_in units)) n ≡ Some (function_of f) → d.place.file ≡ f.file
  in-file f d e k = place-filed (trees_in units) n d e ∙ ap (λ (x : Defined). x.file) (same_Some d (function_of f) (sym e ∙ k))

  pub unit-there : (f : TypedFunction) (u : Bor TypedUnit) → ∥ slice_get (definitions (trees_in units)) n ≡ Some (function_of f) ∥₁ → slice_get units f.file ≡ Some u
      → (d : Defined) → slice_get (functions_in (texts_of units)) n ≡ Some d → slice_get units d.place.file ≡ Some u
  unit-there f u is at d e = ap (slice_get units) (∥∥₁_elim is (number-set _ _) (in-file f d (sym by-units ∙ e))) ∙ at

  pub no-function : length (definitions (trees_in units)) ≤ n → slice_get (functions_in (texts_of units)) n ≡ None
  no-function l = by-units ∙ slice_get_past (definitions (trees_in units)) n l
