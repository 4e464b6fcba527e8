-- The theorems of this crate as statements, which contracts can name.
use Rattle.std.specs.Prelude.{◌≡◌, ◌⊎◌, ℕ, List, true, [], None, Some, Result, Ok, Err}
use Rattle.c_tree.specs.declared.token.Token.{Token}
use Rattle.c_tree.specs.Node.{Node, Nodes}
use Rattle.c_grammar.specs.CPlaces.Lines.{row_line}
use Rattle.c_grammar.specs.CPlaces.Stands.{Stands}
use Rattle.type_rules.specs.Definition.{after, type_of, Out, first_fault, Table, IsAmong, is_kept, HasCell}
use Rattle.type_rules.specs.Faults.{Fault}
use Rattle.type_rules.specs.Functions.{functions_of, defined_each, structs_of}
use Rattle.type_rules.specs.Order.{visited, fill}
use Rattle.type_rules.specs.Parts.{Visit, flat}
use Rattle.type_rules.specs.Roles.{Role, Plain}
use Rattle.type_rules.specs.Scopes.{Scopes, at_start}
use Rattle.type_rules.specs.Ways.ScopesByCase.{scoped, scoped_each}
use Rattle.type_rules.specs.Stays.{Stays}
use Rattle.type_rules.specs.Ways.TablesByCase.{filled, filled_each}
use Rattle.type_rules.specs.Types.{CType}
use Rattle.type_rules.specs.Ways.TypesByCase.{typed, typed_each}
use Rattle.type_rules.specs.Unit.{places_of, AreNumbered, IsTyping, IsFirstFault}

-- a unit that is typed has no fault
abbrev pub TypedHasNoFault : Type 0
TypedHasNoFault = (unit : Nodes) (table : Table) (fault : Fault) → IsTyping unit table → IsFirstFault unit fault → ⊥

-- a unit has at most one first fault
abbrev pub FaultsAreUnique : Type 0
FaultsAreUnique = (unit : Nodes) (a b : Fault) → IsFirstFault unit a → IsFirstFault unit b → a ≡ b

-- A unit whose nodes have different numbers is typed by a table, or has a first fault.
abbrev pub TypedOrAtFault : Type 0
TypedOrAtFault = (unit : Nodes) → AreNumbered unit → ((table : Table) × IsTyping unit table) ⊎ ((fault : Fault) × IsFirstFault unit fault)

-- What a table that types a unit has at the number of a place's node: its type there, and the variable behind it.
abbrev pub CellsAreRight : Type 0
CellsAreRight = (unit : Nodes) (table : Table) (v : Scopes) (r : Role) (e : Visit)
    → IsTyping unit table → IsAmong (Out v r e) (places_of unit) → is_kept v r e ≡ true → HasCell table v r e

-- In a unit without a fault, each node has a type at its place.
abbrev pub PlacesAreTyped : Type 0
PlacesAreTyped = (unit : Nodes) (v : Scopes) (r : Role) (e : Visit)
    → first_fault (places_of unit) ≡ None → IsAmong (Out v r e) (places_of unit) → (t : CType) × (type_of v r e ≡ Some t)

-- What is written out for each kind is what is defined: the scopes behind a node, its type or first fault, and the table.
abbrev pub ByCase : Type 0
ByCase = (v : Scopes) (r : Role) (e : Node) (table : Table)
    → (scoped v r e ≡ after v r (flat e)) × (typed v r e ≡ visited v r (flat e)) × (filled v r e table ≡ fill v r (flat e) table)

-- A unit's trees that are visited one after the other as it is written out for each kind: the table types the unit, or the
-- fault is the first.
abbrev pub UnitByCase : Nodes → Result CType Fault → Type 0
UnitByCase unit (Ok t) = AreNumbered unit → IsTyping unit (filled_each at_start Plain unit [])
UnitByCase unit (Err fault) = IsFirstFault unit fault

abbrev pub UnitsByCase : Type 0
UnitsByCase = (unit : Nodes) (found : Result CType Fault) → typed_each at_start Plain unit ≡ found → UnitByCase unit found

-- The functions of a unit, and the tags of its structures and unions, under the scopes that are written out for each kind.
abbrev pub FunctionsByCase : Type 0
FunctionsByCase = (unit : Nodes) → (functions_of unit ≡ defined_each at_start unit) × (structs_of unit ≡ (scoped_each at_start Plain unit).structs)

-- Trees that stand over tokens, one after the other, have nodes with different numbers.
abbrev pub NumbersDiffer : Type 0
NumbersDiffer = (unit : Nodes) (low high : ℕ) (ts rest : List Token) → Stands (row_line unit) low high ts rest → AreNumbered unit

-- Behind a node, and behind nodes one after the other, what was in force still is.
abbrev pub ScopesStay : Type 0
ScopesStay = (v : Scopes) (r : Role) → ((e : Node) → Stays v (scoped v r e)) × ((es : Nodes) → Stays v (scoped_each v r es))
