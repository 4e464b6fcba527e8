-- The formals of a function of which a program says truncated which it is.
use Rattle.std.proofs.Common.{◌≡◌, ℕ, ◌≤◌, List, length, Option, Some, slice_get, Bor, sym, ap, ◌∙◌, arith}
use Rattle.std.proofs.Math.Logic.{∥∥₁_elim}
use Rattle.std.proofs.lemmas.Option.{slice_get_within, same_Some}
use Rattle.std.specs.Coded.{Coded-set, codes}
use Rattle.type_rules.specs.Functions.{Defined}
use Rattle.type_rules.specs.Vars.{CVar}
use Rattle.type_values.specs.declared.vars.Var.{Var}
use Rattle.call_graph.specs.OfPrograms.Definitions.{definitions, trees_in}
use Rattle.refine_restore.specs.Sites.{formals_of}
use Rattle.typed_unit.specs.declared.functions.TypedFunction.{TypedFunction}
use Rattle.typed_unit.specs.declared.typed_unit.TypedUnit.{TypedUnit}
use Rattle.typed_unit.specs.Functions.{function_of}

formals-set : (x y : List (Option CVar)) → IsProp (x ≡ y)
formals-set = Coded-set (hlevel codes)

module _ (units : List (Bor TypedUnit)) (n : ℕ) (d : Defined) (at : slice_get (definitions (trees_in units)) n ≡ Some d) where
  pub formals-are : (f : TypedFunction) (formals : List (Option Var)) → ∥ slice_get (definitions (trees_in units)) n ≡ Some (function_of f) ∥₁ → formals ≡ f.formals.items → formals_of formals ≡ d.formals
  formals-are f formals h is = ∥∥₁_elim h (formals-set _ _) (λ e. ap formals_of is ∙ ap (λ (x : Defined). x.formals) (same_Some (function_of f) d (sym e ∙ at)))

  pub no-function : {P : Type 0} → length (definitions (trees_in units)) ≤ n → P
  no-function l = let within = slice_get_within (definitions (trees_in units)) n d at in absurd (omega (arith, l, within))
