-- A fault of the clauses as one of the checker.
use Rattle.metal_clauses.specs.declared.fault.ClauseFault.{ClauseFault}
use Rattle.metal_clauses.specs.declared.fault.ClauseFault.TheVariants as clause
use Rattle.metal_reader.specs.declared.metal_faults.fault.MetalFault.{MetalFault}
use Rattle.metal_reader.specs.declared.metal_faults.fault.MetalFault.TheVariants as faults

abbrev pub metal_fault : ClauseFault → MetalFault
metal_fault (clause.Syntax at) = faults.Syntax at
metal_fault clause.NoMemory = faults.NoMemory
