-- The lexer's faults by their kinds.
use Rattle.c_lexer.specs.declared.c_reading.fault.Fault.{Fault}
use Rattle.c_lexer.specs.declared.c_reading.fault.Fault.TheVariants as fault
use Rattle.c_lexer.specs.declared.fault.Spot.{Spot}
use Rattle.c_lexer.specs.declared.fault.LexFault.{LexFault}
use Rattle.c_lexer.specs.declared.fault.LexFault.TheVariants.{BadByte, OpenText, BadNumber, BadMarker}

-- the fault of this kind, there
abbrev pub fault_there : Fault → Spot → LexFault
fault_there fault.BadByte spot = BadByte spot
fault_there fault.OpenText spot = OpenText spot
fault_there fault.BadNumber spot = BadNumber spot
fault_there fault.BadMarker spot = BadMarker spot
