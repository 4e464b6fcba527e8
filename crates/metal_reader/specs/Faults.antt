-- What a refusal says of a text.
use Rattle.std.specs.Prelude.{◌≡◌, ℕ, List}
use Rattle.c_tree.specs.Symbol.{Symbol}
use Rattle.metal_grammar.specs.Words.{Spelling}
use Rattle.metal_grammar.specs.FirstFault as text
use Rattle.metal_grammar.specs.Definition.{IsFirstFault}
use Rattle.metal_reader.specs.declared.metal_faults.fault.MetalFault.{MetalFault}
use Rattle.metal_reader.specs.declared.metal_faults.fault.MetalFault.TheVariants as faults
use Rattle.metal_reader.specs.MetalFaults.Faults.{fault_in}

-- The refusal is the first fault of the symbols.
abbrev pub IsFault : Spelling → List Symbol → ℕ → MetalFault → Type 0
IsFault spelling ts file fault = (first : text.Fault) × IsFirstFault spelling ts first × (fault ≡ fault_in file first)

-- Every refusal but for want of memory is the first fault of the symbols.
abbrev pub Refuses : Spelling → List Symbol → ℕ → MetalFault → Type 0
Refuses spelling ts file faults.NoMemory = Unit {0}
Refuses spelling ts file fault = IsFault spelling ts file fault
