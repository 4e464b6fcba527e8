-- The typing of a unit.
use Rattle.std.specs.Prelude.{◌≡◌, ℕ, List, [], None, Some, ◌⊎◌}
use Rattle.c_tree.specs.Node.{Nodes}
use Rattle.type_rules.specs.Definition.{Meeting, meetings_all_then, first_fault, Table, AreRight}
use Rattle.type_rules.specs.Faults.{Fault}
use Rattle.type_rules.specs.Order.{fill_all}
use Rattle.type_rules.specs.Parts.{Slot, plain, Visit, visit, Parts, none, part, each}
use Rattle.type_rules.specs.Roles.{Role, Plain}
use Rattle.type_rules.specs.Scopes.{at_start}

-- the trees of a unit as parts
abbrev pub visits_of : Nodes → Parts
visits_of unit = each plain unit none

abbrev pub plainly : Slot → Role
plainly slot = Plain

-- all places of a unit in the order of visits
abbrev pub places_of : Nodes → List Meeting
places_of unit = meetings_all_then plainly at_start (visits_of unit) []

-- THE TABLE of a unit: what is kept of its nodes, filled in the order of visits, and nothing else
abbrev pub table_by : Nodes → Table
table_by unit = fill_all plainly at_start (visits_of unit) []

-- A unit without a fault is typed by a table that has its type and its variable at the number of each expression, type name
-- and declared name.
pub record IsTyping (unit : Nodes) (table : Table) : Type 0 where
  pub no_fault : first_fault (places_of unit) ≡ None
  pub right : AreRight table (places_of unit)

-- The first fault of a unit, in the order of visits.
abbrev pub IsFirstFault : Nodes → Fault → Type 0
IsFirstFault unit fault = first_fault (places_of unit) ≡ Some fault

-- the number of a node in this one, or in these
abbrev mutual
  pub IsIn : ℕ → Visit → Type 0
  IsIn j (visit i p s es) = (j ≡ i) ⊎ IsInSome j es

  pub IsInSome : ℕ → Parts → Type 0
  IsInSome j none = ⊥
  IsInSome j (part slot e es) = IsIn j e ⊎ IsInSome j es

-- all nodes have different numbers
abbrev mutual
  pub Differ : Visit → Type 0
  Differ (visit i p s es) = (IsInSome i es → ⊥) × DifferAll es

  pub DifferAll : Parts → Type 0
  DifferAll none = Unit {0}
  DifferAll (part slot e es) = Differ e × ((j : ℕ) → IsIn j e → IsInSome j es → ⊥) × DifferAll es

abbrev pub AreNumbered : Nodes → Type 0
AreNumbered unit = DifferAll (visits_of unit)
