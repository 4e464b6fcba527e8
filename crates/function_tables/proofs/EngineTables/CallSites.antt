-- Calls with what they pass: two proofs that a call is that of a site are equal, so it is enough to know it somehow.
use Rattle.std.proofs.Common.{◌≡◌, ℕ, ◌≤◌, List, [], length, Option, None, Some, slice_get, Bor, sym, ap, subst, ◌∙◌}
use Rattle.std.proofs.Math.Logic.{∥∥₁_elim}
use Rattle.std.proofs.lemmas.Option.{same_Some, slice_get_past}
use Rattle.std.specs.Coded.{Coded, Coded-set, codes, coded_list, coded_option}
use Rattle.c_objects.specs.Facts.{Facts}
use Rattle.c_objects.specs.Objects.{Object, Selector}
use Rattle.c_tree.specs.Node.{Node}
use Rattle.c_tree.specs.Views.{node_of}
use Rattle.type_rules.specs.Functions.{Defined}
use Rattle.type_rules.specs.Options.{if_there, ◌>?◌}
use Rattle.type_rules.specs.Vars.{CVar}
use Rattle.type_values.specs.declared.vars.Var.{Var}
use Rattle.path_model.proofs.CheckerGraphs.Units.{callee-is, functions-are, objects-are, place-filed}
use Rattle.path_model.specs.CheckerModel.Calls.{actuals_of}
use Rattle.path_model.specs.CheckerModel.Happenings.{Site}
use Rattle.path_model.specs.CheckerPrograms.Texts.{callee_of, function_of, functions_in, site}
use Rattle.typed_unit.specs.Texts.{texts_of}
use Rattle.call_graph.specs.OfPrograms.Calls.{body_called, table_in}
use Rattle.call_graph.specs.OfPrograms.Definitions.{definitions, trees_in}
use Rattle.refine_restore.specs.declared.site.Site as code
use Rattle.refine_restore.specs.Sites.{formals_of}
use Rattle.block_flows.specs.TupleFlows.Passed.{IsSite}
use Rattle.typed_unit.specs.declared.functions.TypedFunction.{TypedFunction}
use Rattle.typed_unit.specs.declared.typed_unit.TypedUnit.{TypedUnit}
use Rattle.typed_unit.specs.Functions as typed

variable-coded : Coded CVar
variable-coded = hlevel codes

selector-coded : Coded Selector
selector-coded = hlevel (codes, variable-coded)

object-coded : Coded Object
object-coded = hlevel (codes, variable-coded, selector-coded)

formals-set : (x y : List (Option CVar)) → IsProp (x ≡ y)
formals-set = Coded-set (coded_list (coded_option variable-coded))

actuals-set : (x y : List (Option Object)) → IsProp (x ≡ y)
actuals-set = Coded-set (coded_list (coded_option object-coded))

site-prop : (depth : ℕ) (s : code.Site) (z : Site) → IsProp (IsSite depth s z)
site-prop depth s z x y = λ i. record { formals = formals-set _ _ x.formals y.formals i; actuals = actuals-set _ _ x.actuals y.actuals i }

abbrev formals_in : Option Defined → List (Option CVar)
formals_in o = if_there o [] (λ d. d.formals)

module _ (units : List (Bor TypedUnit)) where
  -- the formals of a call's callee
  pub formals-found : (file : ℕ) (call : Node) (n : ℕ) (f : TypedFunction) (fs : List (Option Var)) → Some n ≡ body_called (table_in units file) file (definitions (trees_in units)) call
      → ∥ slice_get (definitions (trees_in units)) n ≡ Some (typed.function_of f) ∥₁ → fs ≡ f.formals.items → formals_of fs ≡ if_there (callee_of (texts_of units) file call) [] (λ d. d.formals)
  formals-found file call n f fs b there e = ∥∥₁_elim there (formals-set _ _) (λ i.
      ap formals_of e ∙ sym (ap formals_in (callee-is units file call ∙ ap (λ (o : Option ℕ). o >? slice_get (definitions (trees_in units))) (sym b) ∙ i)))

  pub formals-missing : (file : ℕ) (call : Node) → None ≡ body_called (table_in units file) file (definitions (trees_in units)) call
      → [] ≡ if_there (callee_of (texts_of units) file call) [] (λ d. d.formals)
  formals-missing file call b = sym (ap formals_in (callee-is units file call ∙ ap (λ (o : Option ℕ). o >? slice_get (definitions (trees_in units))) (sym b)))

  -- the function with a number, of which the program says which it is
  there-once : (n : ℕ) (d : Defined) (f : TypedFunction) → slice_get (functions_in (texts_of units)) n ≡ Some d → slice_get (definitions (trees_in units)) n ≡ Some (typed.function_of f)
      → d ≡ typed.function_of f
  there-once n d f e i = same_Some d (typed.function_of f) (sym e ∙ ap (λ (ds : List Defined). slice_get ds n) (functions-are units) ∙ i)

  -- past all functions there is none
  pub none-past : (n count : ℕ) → count ≡ length (definitions (trees_in units)) → count ≤ n → slice_get (functions_in (texts_of units)) n ≡ None
  none-past n count e past = ap (λ (ds : List Defined). slice_get ds n) (functions-are units) ∙ slice_get_past (definitions (trees_in units)) n (subst (λ k. k ≤ n) e past)

  -- a call in a function passes what the site of it does
  pub site-there : (depth n : ℕ) (d : Defined) (f : TypedFunction) (s : code.Site) → slice_get (functions_in (texts_of units)) n ≡ Some d
      → ∥ slice_get (definitions (trees_in units)) n ≡ Some (typed.function_of f) ∥₁ → slice_get units f.file ≡ Some s.unit
      → formals_of s.formals.now ≡ if_there (callee_of (texts_of units) f.file (node_of s.call.now)) [] (λ x. x.formals)
      → IsSite depth s (site depth (texts_of units) (function_of d) (node_of s.call.now))
  site-there depth n d f s e there u formals = ∥∥₁_elim there (site-prop depth s _) (λ i.
      let same : d ≡ typed.function_of f = there-once n d f e i in
      let file : d.place.file ≡ f.file = ap (λ (x : Defined). x.place.file) same ∙ place-filed (trees_in units) n (typed.function_of f) i in record {
        formals = ap (λ (m : ℕ). formals_in (callee_of (texts_of units) m (node_of s.call.now))) file ∙ sym formals;
        actuals = ap (λ (x : Facts). actuals_of x depth (node_of s.call.now)) (objects-are units d.place.file s.unit (ap (slice_get units) file ∙ u));
      })
