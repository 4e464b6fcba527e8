-- What may be missing, and what may be a fault.
use Rattle.std.specs.Prelude.{Option, None, Some, Result, Ok, Err}
pub use Rattle.c_tree.specs.Tables.{if_there}
use Rattle.type_rules.specs.Faults.{Fault}

abbrev pub or_else : {A : Type 0} → Option A → Option A → Option A
or_else None y = y
or_else (Some x) y = Some x

infixl 10 ◌>?◌
abbrev pub ◌>?◌ : {A B : Type 0} → Option A → (A → Option B) → Option B
None >? f = None
(Some x) >? f = f x

infixl 10 ◌>>=◌
abbrev pub ◌>>=◌ : {A B : Type 0} → Result A Fault → (A → Result B Fault) → Result B Fault
(Ok x) >>= f = f x
(Err e) >>= f = Err e

abbrev pub or_fault : {A : Type 0} → Option A → Fault → Result A Fault
or_fault None e = Err e
or_fault (Some x) e = Ok x

-- the second, unless there is this fault
abbrev pub unless_fault : {A : Type 0} → Option Fault → Result A Fault → Result A Fault
unless_fault None r = r
unless_fault (Some e) r = Err e

abbrev pub ok : {A : Type 0} → Result A Fault → Option A
ok (Ok x) = Some x
ok (Err e) = None

abbrev pub err : {A : Type 0} → Result A Fault → Option Fault
err (Ok x) = None
err (Err e) = Some e
