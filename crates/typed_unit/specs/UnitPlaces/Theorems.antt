-- The theorems on places as statements, which contracts can name.
use Rattle.std.specs.Prelude.{◌≡◌, ℕ, ◌+◌, ◌<◌, List, length, take, drop, get_or, All, true}
use Rattle.c_tree.specs.declared.place.Place.{Place}
use Rattle.c_tree.specs.declared.tree.Tree.{Tree}
use Rattle.c_tree.specs.Node.{Node, node, Shape, Nodes, more}
use Rattle.c_tree.specs.Views.{node_of, nodes_in}
use Rattle.type_rules.specs.Definition.{after_all, Table, at, number_of}
use Rattle.type_rules.specs.Functions.{Defined, functions_of}
use Rattle.type_rules.specs.Moves.{opened}
use Rattle.type_rules.specs.Parts.{Slot, Visit, visit, Parts, part, flat}
use Rattle.type_rules.specs.Roles.{Role, Plain, Body, given}
use Rattle.type_rules.specs.Scopes.{Scopes, at_start}
use Rattle.type_rules.specs.Ways.ScopesByCase.{scoped, scoped_each}
use Rattle.type_rules.specs.Unit.{IsTyping}
use Rattle.typed_unit.specs.Places.{StandsAt, IsTypedAt}
use Rattle.typed_unit.specs.UnitPlaces.Functions.{IsDefinedIn}
use Rattle.typed_unit.specs.Ways.PartsByCase.{PartsStandAt}
use Rattle.typed_unit.specs.UnitPlaces.Standing.{IsVisited, followed, joined, EachStands}
use Rattle.typed_unit.specs.UnitPlaces.Typed.{is_typed, declares_name}

-- The trees of a unit stand in it, one after the other, the first at the start.
abbrev pub TreesStand : Type 0
TreesStand = (unit : Nodes) → EachStands unit at_start Plain unit

-- Of nodes that stand one after the other, each stands behind those before it, and so do the rest.
abbrev pub NodesStand : Type 0
NodesStand = (unit : Nodes) (v : Scopes) (r : Role) (before : Nodes) (e : Node) (behind : Nodes)
    → EachStands unit v r (joined before (more e behind)) → StandsAt unit (scoped_each v r before) r e × EachStands unit (scoped_each v r before) r (more e behind)

-- The same by an index into the list of trees that they are.
abbrev pub ItemsStand : Type 0
ItemsStand = (unit : Nodes) (v : Scopes) (r : Role) (items : List Tree) (i : ℕ) (default : Tree)
    → EachStands unit v r (nodes_in items) → i < length items
    → StandsAt unit (scoped_each v r (nodes_in (take i items))) r (node_of (get_or items i default)) × EachStands unit (scoped_each v r (nodes_in (take i items))) r (nodes_in (drop i items))

-- A list of trees that is gone over from its beginning: the next one stands, and so do those behind it.
abbrev pub NextStands : Type 0
NextStands = (unit : Nodes) (v : Scopes) (r : Role) (items : List Tree) (i : ℕ) (default : Tree)
    → EachStands unit v r (nodes_in (drop i items)) → i < length items
    → StandsAt unit v r (node_of (get_or items i default)) × EachStands unit (scoped v r (node_of (get_or items i default))) r (nodes_in (drop (i + 1) items))

-- Where a node stands each of its parts stands, behind those before it, in the role of its slot.
abbrev pub PartsStand : Type 0
PartsStand = (unit : Nodes) (v : Scopes) (r : Role) (i : ℕ) (p : Place) (s : Shape) (before : Parts) (slot : Slot) (e : Visit) (behind : Parts)
    → IsVisited unit v r (visit i p s (followed before (part slot e behind))) → IsVisited unit (after_all (given v r) (opened v r s) before) (given v r slot) e

-- The same for each kind of node.
abbrev pub PartsStandByCase : Type 0
PartsStandByCase = (unit : Nodes) (v : Scopes) (r : Role) (i : ℕ) (p : Place) (s : Shape) → StandsAt unit v r (node i p s) → PartsStandAt unit v r s

-- Each function of a unit is what a definition says that stands in it.
abbrev pub FunctionsStand : Type 0
FunctionsStand = (unit : Nodes) → All (IsDefinedIn unit) (functions_of unit)

-- The body of each function of a unit stands in it as one.
abbrev pub BodiesStand : Type 0
BodiesStand = (unit : Nodes) → All (λ (f : Defined). (v : Scopes) × StandsAt unit v Body f.body) (functions_of unit)

-- An expression or a type name has a type where it stands.
abbrev pub ExpressionsAreTyped : Type 0
ExpressionsAreTyped = (unit : Nodes) (v : Scopes) (r : Role) (e : Node) → StandsAt unit v r e → is_typed e ≡ true → IsTypedAt unit v r e

-- A declarator that declares a name has a type where it stands.
abbrev pub DeclaratorsAreTyped : Type 0
DeclaratorsAreTyped = (unit : Nodes) (v : Scopes) (r : Role) (e : Node) → StandsAt unit v r e → declares_name r e ≡ true → IsTypedAt unit v r e

-- Two tables that type a unit have the same type and variable for each node that has a type.
abbrev pub FactsAgree : Type 0
FactsAgree = (unit : Nodes) (one other : Table) (v : Scopes) (r : Role) (e : Node)
    → IsTyping unit one → IsTyping unit other → IsTypedAt unit v r e → at (number_of (flat e)) one ≡ at (number_of (flat e)) other
