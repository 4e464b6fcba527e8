-- What the reader of clauses gives.
use Rattle.std.specs.Prelude.{◌≡◌, ◌⊎◌, ℕ, List, Option, None, Some, Result, Ok, Err}
use Rattle.metal_grammar.specs.Reading.{Clauses, AllRead, Unread}
use Rattle.metal_grammar.specs.Written as text
use Rattle.metal_written.specs.declared.written.Clause.{Clause}
use Rattle.c_expr.specs.declared.fault.ExprFault.{ExprFault}
use Rattle.c_expr.specs.declared.fault.ExprFault.TheVariants.{NoTree}
use Rattle.metal_clauses.specs.declared.fault.ClauseFault.{ClauseFault}
use Rattle.metal_clauses.specs.declared.fault.ClauseFault.TheVariants as faults
use Rattle.metal_clauses.specs.Places.{place_in}
use Rattle.metal_written.specs.Written.{clause_view, clause_views}

abbrev pub ReadsAll : Clauses → List Clause → Type 0
ReadsAll read cs = read ≡ AllRead (clause_views cs)

-- A clause isn't read, and the refusal has its place; or memory ran out.
abbrev pub IsUnread : Clauses → ℕ → ClauseFault → Type 0
IsUnread read file faults.NoMemory = Unit {0}
IsUnread read file fault = (at : ℕ) × (read ≡ Unread at) × (fault ≡ faults.Syntax (place_in file at))

-- A clause is read; or it isn't, and the refusal has its place; or memory ran out.
abbrev pub GivesBetween : ℕ → ℕ → Result Clause ClauseFault → Option text.Clause → Type 0
GivesBetween file from (Ok c) found = found ≡ Some (clause_view c)
GivesBetween file from (Err e) found = (e ≡ faults.NoMemory) ⊎ ((found ≡ None) × (e ≡ faults.Syntax (place_in file from)))

abbrev pub GivesClause : Result Clause ExprFault → Option text.Clause → Type 0
GivesClause (Ok c) found = found ≡ Some (clause_view c)
GivesClause (Err e) found = e ≡ NoTree → found ≡ None
