-- What the program answers, against what is defined.
use Rattle.std.specs.Prelude.{◌≡◌, Option, None, Some, Result, Ok, Err}
use Rattle.type_rules.specs.Faults.{Fault}
use Rattle.type_rules.specs.Faults as fault
use Rattle.type_rules.specs.Types.{CType}
use Rattle.type_values.specs.declared.types.Ty.{Ty}
use Rattle.type_values.specs.Types.{ctype_of}
use Rattle.unit_typing.specs.declared.faults.TypeFault.{TypeFault}
use Rattle.unit_typing.specs.declared.faults.TypeFault.TheVariants as faults

-- the fault that it is, unless memory ran out
abbrev pub fault_of : TypeFault → Option Fault
fault_of (faults.Undeclared place name) = Some (fault.Undeclared place name)
fault_of (faults.NoField place name) = Some (fault.NoField place name)
fault_of (faults.Redeclared place name) = Some (fault.Redeclared place name)
fault_of (faults.NotPointer place) = Some (fault.NotPointer place)
fault_of (faults.NotStruct place) = Some (fault.NotStruct place)
fault_of (faults.NotFunction place) = Some (fault.NotFunction place)
fault_of (faults.NotLvalue place) = Some (fault.NotLvalue place)
fault_of faults.NoMemory = None

-- The type is the one that is defined. A fault is the one that is defined, unless memory ran out.
abbrev pub Gives : Result Ty TypeFault → Result CType Fault → Type 0
Gives (Ok t) found = found ≡ Ok (ctype_of t)
Gives (Err e) found = (f : Fault) → fault_of e ≡ Some f → found ≡ Err f

-- There is no fault. A fault is the one that is defined, unless memory ran out.
abbrev pub Finds : Result (Unit {0}) TypeFault → Option Fault → Type 0
Finds (Ok t) found = found ≡ None
Finds (Err e) found = (f : Fault) → fault_of e ≡ Some f → found ≡ Some f
