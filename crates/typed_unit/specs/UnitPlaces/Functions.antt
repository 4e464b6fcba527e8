-- The definition that a function of a unit comes from.
use Rattle.std.specs.Prelude.{◌≡◌, ℕ, List, Some, All}
use Rattle.c_tree.specs.declared.place.Place.{Place}
use Rattle.c_tree.specs.declared.token.Token.{Token}
use Rattle.c_tree.specs.Node.{Node, node, Outer, Function, Nodes}
use Rattle.type_rules.specs.Declarators.{name_of}
use Rattle.type_rules.specs.Functions.{Defined, defined}
use Rattle.type_rules.specs.Roles.{Plain}
use Rattle.type_rules.specs.Scopes.{Scopes}
use Rattle.typed_unit.specs.declared.functions.TypedFunction.{TypedFunction}
use Rattle.typed_unit.specs.Functions.{function_of}
use Rattle.typed_unit.specs.Places.{StandsAt}

-- A definition that stands in the unit under these scopes, with the function's body, and the function is what it says.
pub record IsDefinedIn (unit : Nodes) (f : Defined) : Type 0 where
  pub scopes : Scopes
  pub number : ℕ
  pub first : Place
  pub specs : Node
  pub declarator : Node
  pub name : Token
  pub stands : StandsAt unit scopes Plain (node number first (Outer (Function specs declarator f.body)))
  pub named : name_of declarator ≡ Some name
  pub made : f ≡ defined scopes specs declarator f.body name

-- the same of all functions of a typed unit
abbrev pub AreDefinedIn : Nodes → List TypedFunction → Type 0
AreDefinedIn unit fs = All (λ (f : TypedFunction). IsDefinedIn unit (function_of f)) fs
