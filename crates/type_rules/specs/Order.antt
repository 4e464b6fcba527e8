-- The visit of a node in order: the first fault or the type, and the table behind it.
use Rattle.std.specs.Prelude.{ℕ, zero, suc, List, [], ◌∷◌, Option, None, Some, Bool, cond, Result, Ok, Err}
use Rattle.type_rules.specs.Definition.{after, behind_parts, Cell, Table}
use Rattle.type_rules.specs.Faults.{Fault}
use Rattle.type_rules.specs.Moves.{opened}
use Rattle.type_rules.specs.Options.{◌>>=◌, unless_fault}
use Rattle.type_rules.specs.Parts.{Slot, Visit, visit, Parts, none, part}
use Rattle.type_rules.specs.Roles.{Role, given}
use Rattle.type_rules.specs.Rows.{row, entry_fault, keeps, var_of}
use Rattle.type_rules.specs.Scopes.{Scopes}
use Rattle.type_rules.specs.Types.{CType}
use Rattle.type_rules.specs.Vars.{CVar}

-- the type or the first fault: the tag of a body, the parts from left to right, then the node
abbrev mutual
  pub visited : Scopes → Role → Visit → Result CType Fault
  visited v r (visit i p s es) = unless_fault (entry_fault v s) (visited_all (given v r) (opened v r s) es >>= λ ts. row v (behind_parts v r s es) r p s ts)

  pub visited_all : (Slot → Role) → Scopes → Parts → Result (List CType) Fault
  visited_all roles v none = Ok []
  visited_all roles v (part slot e es) = visited v (roles slot) e >>= λ t. visited_all roles (after v (roles slot) e) es >>= λ ts. Ok (t ∷ ts)

-- the table with this at the number i
abbrev pub put : ℕ → Cell → Table → Table
put zero x [] = Some x ∷ []
put zero x (y ∷ ys) = Some x ∷ ys
put (suc i) x [] = None ∷ put i x []
put (suc i) x (y ∷ ys) = y ∷ put i x ys

abbrev pub put_found : ℕ → Option CVar → Result CType Fault → Table → Table
put_found i var (Ok t) table = put i (record { ty = t; var = var }) table
put_found i var (Err e) table = table

abbrev pub put_kept : Bool → ℕ → Option CVar → Result CType Fault → Table → Table
put_kept kept i var found table = cond kept (put_found i var found table) table

-- the table behind a node
abbrev mutual
  pub fill : Scopes → Role → Visit → Table → Table
  fill v r (visit i p s es) table = put_kept (keeps (behind_parts v r s es) r s) i (var_of v (behind_parts v r s es) r s) (visited v r (visit i p s es)) (fill_all (given v r) (opened v r s) es table)

  pub fill_all : (Slot → Role) → Scopes → Parts → Table → Table
  fill_all roles v none table = table
  fill_all roles v (part slot e es) table = fill_all roles (after v (roles slot) e) es (fill v (roles slot) e table)
