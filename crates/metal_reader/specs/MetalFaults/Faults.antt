-- The refusal for each fault of a text.
use Rattle.std.specs.Prelude.{ℕ}
use Rattle.metal_grammar.specs.FirstFault as text
use Rattle.metal_clauses.specs.Places.{place_in}
use Rattle.metal_numbers.specs.declared.metal_declared.which.Which.{Which}
use Rattle.metal_numbers.specs.declared.metal_declared.which.Which.TheVariants as which
use Rattle.metal_reader.specs.declared.metal_faults.fault.MetalFault.{MetalFault}
use Rattle.metal_reader.specs.declared.metal_faults.fault.MetalFault.TheVariants as faults

abbrev pub counted : text.Counted → Which
counted text.Variables = which.Variables
counted text.Holes = which.Holes
counted text.AllRules = which.Rules

-- the refusal for a fault of a text in the file with this number
abbrev pub fault_in : ℕ → text.Fault → MetalFault
fault_in file (text.SyntaxAt at) = faults.Syntax (place_in file at)
fault_in file (text.TooMany what at) = faults.TooMany (counted what) (place_in file at)
fault_in file (text.Twice name at) = faults.Twice name (place_in file at)
fault_in file (text.UnknownCallout name at) = faults.UnknownCallout name (place_in file at)
fault_in file (text.TwoVariables rule) = faults.TwoVariables rule
fault_in file (text.BadSplit rule) = faults.BadSplit rule
fault_in file (text.BadSource rule) = faults.BadSource rule
fault_in file (text.VariableMissing rule) = faults.VariableMissing rule
fault_in file (text.BadFormat rule) = faults.BadFormat rule
