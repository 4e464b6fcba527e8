-- What is wrong with a unit, and where. The place of a fault is the first token of the faulty expression, or the declared name.
use Rattle.std.specs.Prelude.{ℕ}
use Rattle.c_tree.specs.declared.place.Place.{Place}

-- the first three have the name that is meant
pub data Fault : Type 0 where
  -- a name that isn't in scope (ISO 9899:1990, 6.3.1)
  Undeclared : Place → ℕ → Fault
  -- no member of the structure or union has the name (6.3.2.3)
  NoField : Place → ℕ → Fault
  -- a name or a tag is declared again where it may not be (6.5, 6.1.2.3, 6.5.2.3)
  Redeclared : Place → ℕ → Fault
  -- an operand that has to be a pointer or an array isn't one (6.3.2.1, 6.3.2.3, 6.3.3.2)
  NotPointer : Place → Fault
  -- the operand of `.` is no complete structure or union (6.3.2.3)
  NotStruct : Place → Fault
  -- what is called is neither a function nor a pointer to one (6.3.2.2)
  NotFunction : Place → Fault
  -- an operand that has to be an lvalue isn't one (6.3.2.4, 6.3.3.1, 6.3.3.2, 6.3.16)
  NotLvalue : Place → Fault
