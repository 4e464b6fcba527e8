-- THE DEFINITION of typing: the type of a node at its place, the places in the order of visits, and the first fault among them.
use Rattle.std.specs.Prelude.{◌≡◌, ℕ, zero, suc, List, [], ◌∷◌, Option, None, Some, Bool, true, ⊤, ◌⊎◌}
use Rattle.std.specs.Option.{option_map}
use Rattle.c_tree.specs.Node.{Shape}
use Rattle.type_rules.specs.Faults.{Fault}
use Rattle.type_rules.specs.Moves.{opened, closed}
use Rattle.type_rules.specs.Options.{or_else, ok, err, ◌>?◌}
use Rattle.type_rules.specs.Parts.{Slot, Visit, visit, Parts, none, part}
use Rattle.type_rules.specs.Roles.{Role, given}
use Rattle.type_rules.specs.Rows.{row, entry_fault, keeps, var_of}
use Rattle.type_rules.specs.Scopes.{Scopes}
use Rattle.type_rules.specs.Types.{CType}
use Rattle.type_rules.specs.Vars.{CVar}

-- THE SCOPES are a function of the place: those behind a node, and behind parts that have these roles.
abbrev mutual
  pub after : Scopes → Role → Visit → Scopes
  after v r (visit i p s es) = closed v r s (after_all (given v r) (opened v r s) es)

  pub after_all : (Slot → Role) → Scopes → Parts → Scopes
  after_all roles v none = v
  after_all roles v (part slot e es) = after_all roles (after v (roles slot) e) es

-- the scopes behind the parts of a node
abbrev pub behind_parts : Scopes → Role → Shape → Parts → Scopes
behind_parts v r s es = after_all (given v r) (opened v r s) es

abbrev pub if_fine : {A : Type 0} → Option Fault → Option A → Option A
if_fine None o = o
if_fine (Some f) o = None

-- THE TYPE of a node in its role, under the scopes in force at its place: by its row. There is none where a part has none, or
-- where the node names a fault.
abbrev mutual
  pub type_of : Scopes → Role → Visit → Option CType
  type_of v r (visit i p s es) = if_fine (entry_fault v s) (types_of (given v r) (opened v r s) es >? λ ts. ok (row v (behind_parts v r s es) r p s ts))

  pub types_of : (Slot → Role) → Scopes → Parts → Option (List CType)
  types_of roles v none = Some []
  types_of roles v (part slot e es) = type_of v (roles slot) e >? λ t. types_of roles (after v (roles slot) e) es >? λ ts. Some (t ∷ ts)

-- A node under the scopes in force at its place, in its role; met on the way in, and, behind its parts, on the way out.
pub data Meeting : Type 0 where
  In : Scopes → Role → Visit → Meeting
  Out : Scopes → Role → Visit → Meeting

-- what is kept of a node: its type, and the variable behind it
pub record Cell : Type 0 where
  pub ty : CType
  pub var : Option CVar

-- THE FAULT at a place: on the way in that of a tag, on the way out that of the row, if the parts have types
abbrev pub in_fault : Scopes → Visit → Option Fault
in_fault v (visit i p s es) = entry_fault v s

abbrev pub out_fault : Scopes → Role → Visit → Option Fault
out_fault v r (visit i p s es) = types_of (given v r) (opened v r s) es >? λ ts. err (row v (behind_parts v r s es) r p s ts)

abbrev pub fault_at : Meeting → Option Fault
fault_at (In v r e) = in_fault v e
fault_at (Out v r e) = out_fault v r e

-- THE ORDER OF VISITS: the places in a node, and then these
abbrev mutual
  pub meetings_then : Scopes → Role → Visit → List Meeting → List Meeting
  meetings_then v r (visit i p s es) xs = In v r (visit i p s es) ∷ meetings_all_then (given v r) (opened v r s) es (Out v r (visit i p s es) ∷ xs)

  pub meetings_all_then : (Slot → Role) → Scopes → Parts → List Meeting → List Meeting
  meetings_all_then roles v none xs = xs
  meetings_all_then roles v (part slot e es) xs = meetings_then v (roles slot) e (meetings_all_then roles (after v (roles slot) e) es xs)

abbrev pub first_fault : List Meeting → Option Fault
first_fault [] = None
first_fault (x ∷ xs) = or_else (fault_at x) (first_fault xs)

-- the nodes that have a type, by their numbers
abbrev pub Table : Type 0
Table = List (Option Cell)

abbrev pub at : ℕ → Table → Option Cell
at i [] = None
at zero (x ∷ xs) = x
at (suc i) (x ∷ xs) = at i xs

abbrev pub number_of : Visit → ℕ
number_of (visit i p s es) = i

-- THE VARIABLE behind a node at its place
abbrev pub var_at : Scopes → Role → Visit → Option CVar
var_at v r (visit i p s es) = var_of v (behind_parts v r s es) r s

abbrev pub is_kept : Scopes → Role → Visit → Bool
is_kept v r (visit i p s es) = keeps (behind_parts v r s es) r s

-- the table has this type and this variable at the node's number
abbrev pub HasCell : Table → Scopes → Role → Visit → Type 0
HasCell table v r e = at (number_of e) table ≡ option_map (λ t. record { ty = t; var = var_at v r e }) (type_of v r e)

abbrev pub IsRight : Table → Meeting → Type 0
IsRight table (In v r e) = ⊤
IsRight table (Out v r e) = is_kept v r e ≡ true → HasCell table v r e

abbrev pub AreRight : Table → List Meeting → Type 0
AreRight table [] = ⊤
AreRight table (x ∷ xs) = IsRight table x × AreRight table xs

abbrev pub IsAmong : Meeting → List Meeting → Type 0
IsAmong x [] = ⊥
IsAmong x (y ∷ ys) = (x ≡ y) ⊎ IsAmong x ys
