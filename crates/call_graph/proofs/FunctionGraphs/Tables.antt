-- The table of a unit of a program.
use Rattle.std.proofs.Common.{◌≡◌, ℕ, List, [], Option, Some, slice_get, Bor, ap, refl, sym}
use Rattle.std.proofs.Math.Logic.{∥∥₁_elim}
use Rattle.std.specs.Coded.{Coded, Coded-set, code_by, coded_ℕ, coded_option, coded×}
use Rattle.flow_graph.specs.CPaths.Events.{Variable}
use Rattle.c_tree.specs.Node.{Node}
use Rattle.type_rules.specs.Options.{if_there}
use Rattle.call_graph.specs.FunctionGraphs.Variables.{variable_of}
use Rattle.call_graph.specs.OfPrograms.Calls.{table_in}
use Rattle.typed_unit.specs.declared.typed_unit.TypedUnit.{TypedUnit}
use Rattle.typed_unit.specs.Tables.{table_of}

variable-coded : Coded Variable
variable-coded = code_by (ℕ × (ℕ × ℕ)) (coded× coded_ℕ (coded× coded_ℕ coded_ℕ)) (λ x. (x.place.file, (x.place.token, x.name))) (λ p. record { place = record { file = p.0; token = p.1.0 }; name = p.1.1 }) (λ _. refl)

variable-set : (x y : Option Variable) → IsProp (x ≡ y)
variable-set = Coded-set (coded_option variable-coded)

-- what a declarator declares by the table of the unit that stands there
pub declared_in : (units : List (Bor TypedUnit)) (file : ℕ) (u : Bor TypedUnit) (e : Node) → ∥ slice_get units file ≡ Some u ∥₁ → variable_of (table_of u.now.table) e ≡ variable_of (table_in units file) e
declared_in units file u e known =
    ∥∥₁_elim known (variable-set (variable_of (table_of u.now.table) e) (variable_of (table_in units file) e)) (λ k. ap (λ o. variable_of (if_there o [] (λ (w : Bor TypedUnit). table_of w.now.table)) e) (sym k))
