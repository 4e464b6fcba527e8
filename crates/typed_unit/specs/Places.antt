-- Where a node stands in a unit, and over which tokens.
use Rattle.std.specs.Prelude.{◌≡◌, ℕ, List, [], Bool, true, false}
use Rattle.c_grammar.specs.CPlaces.Lines.{row_line}
use Rattle.c_grammar.specs.CPlaces.Stands.{Stands}
use Rattle.c_tree.specs.declared.token.Token.{Token}
use Rattle.c_tree.specs.Node.{Node, node, Nodes, Primary, Ident}
use Rattle.type_rules.specs.Definition.{Out, IsAmong, is_kept}
use Rattle.type_rules.specs.Parts.{flat}
use Rattle.type_rules.specs.Roles.{Role}
use Rattle.type_rules.specs.Scopes.{Scopes}
use Rattle.type_rules.specs.Unit.{places_of}

-- The trees are those of the tokens, one after the other, and the numbers of their nodes go up.
abbrev pub StandOver : Nodes → List Token → Type 0
StandOver trees tokens = (high : ℕ) × Stands (row_line trees) 0 high tokens []

-- a node of the unit, which is visited under these scopes, in this role
abbrev pub StandsAt : Nodes → Scopes → Role → Node → Type 0
StandsAt unit v r e = IsAmong (Out v r (flat e)) (places_of unit)

-- one that has a type: an expression, a type name, or a declarator that declares a name
pub record IsTypedAt (unit : Nodes) (v : Scopes) (r : Role) (e : Node) : Type 0 where
  pub stands : StandsAt unit v r e
  pub kept : is_kept v r (flat e) ≡ true

abbrev pub is_identifier : Node → Bool
is_identifier (node i p (Primary (Ident name))) = true
is_identifier _ = false
