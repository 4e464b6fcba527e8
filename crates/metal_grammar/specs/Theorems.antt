-- The theorems of this crate as statements, which contracts can name.
use Rattle.std.specs.Prelude.{◌≡◌, ◌↔◌, ◌⊎◌, ℕ, true, List, None}
use Rattle.c_tree.specs.Symbol.{Symbol}
use Rattle.metal_grammar.specs.Words.{Spelling}
use Rattle.metal_grammar.specs.Written.{Clause}
use Rattle.metal_grammar.specs.Grammar.{nothing_before, IsText, IsSyntaxFault, text_tokens, AreWellFormed}
use Rattle.metal_tree.specs.MetalMachines.Machine.{Machine}
use Rattle.metal_tree.specs.MetalMachines.Limits.{IsLimited}
use Rattle.metal_tree.specs.MetalMachines.Kept.{IsKept}
use Rattle.metal_grammar.specs.FirstFault.{Fault, fault_of}
use Rattle.metal_grammar.specs.Meaning.{machine_of}
use Rattle.metal_grammar.specs.Known.{AreKnown, StringsAreKnown}
use Rattle.metal_grammar.specs.Definition.{IsMachine, IsFirstFault}
use Rattle.metal_grammar.specs.Reading.{AllRead, Unread, read_text, Accepted, Refused, read_machine}

-- what is read of all clauses is exactly the text that they are
abbrev pub TextsAreRead : Type 0
TextsAreRead = (spelling : Spelling) (ts : List Symbol) (cs : List Clause) → (read_text spelling ts ≡ AllRead cs) ↔ IsText spelling cs ts

-- the first clause that isn't read is exactly the first one without a parse
abbrev pub SyntaxFaultsAreRead : Type 0
SyntaxFaultsAreRead = (spelling : Spelling) (ts : List Symbol) (at : ℕ) → (read_text spelling ts ≡ Unread at) ↔ IsSyntaxFault spelling ts at

-- Where the contents of all strings are names, the texts of all callouts are.
abbrev pub TextsAreKnown : Type 0
TextsAreKnown = (spelling : Spelling) (ts : List Symbol) (cs : List Clause) → StringsAreKnown spelling ts → IsText spelling cs ts → AreKnown spelling cs

-- Where the contents of all strings are names, the machine that is read is exactly that of the symbols,
abbrev pub MachinesAreRead : Type 0
MachinesAreRead = (spelling : Spelling) (ts : List Symbol) (m : Machine) → StringsAreKnown spelling ts → (read_machine spelling ts ≡ Accepted m) ↔ IsMachine spelling ts m

-- and the fault exactly the first one
abbrev pub FirstFaultsAreRead : Type 0
FirstFaultsAreRead = (spelling : Spelling) (ts : List Symbol) (fault : Fault) → (read_machine spelling ts ≡ Refused fault) ↔ IsFirstFault spelling ts fault

-- symbols are at most one text, at most one machine, and have at most one first fault
abbrev pub TextsAreUnique : Type 0
TextsAreUnique = (spelling : Spelling) (ts : List Symbol) (a b : List Clause) → IsText spelling a ts → IsText spelling b ts → a ≡ b

abbrev pub MachinesAreUnique : Type 0
MachinesAreUnique = (spelling : Spelling) (ts : List Symbol) (a b : Machine) → IsMachine spelling ts a → IsMachine spelling ts b → a ≡ b

abbrev pub FirstFaultsAreUnique : Type 0
FirstFaultsAreUnique = (spelling : Spelling) (ts : List Symbol) (a b : Fault) → IsFirstFault spelling ts a → IsFirstFault spelling ts b → a ≡ b

-- symbols are a machine or have a first fault, where the contents of all strings are names, and never both
abbrev pub MachineOrFault : Type 0
MachineOrFault = (spelling : Spelling) (ts : List Symbol) → StringsAreKnown spelling ts → ((m : Machine) × IsMachine spelling ts m) ⊎ ((fault : Fault) × IsFirstFault spelling ts fault)

abbrev pub NeverBoth : Type 0
NeverBoth = (spelling : Spelling) (ts : List Symbol) (m : Machine) (fault : Fault) → IsMachine spelling ts m → IsFirstFault spelling ts fault → ⊥

-- Symbols are a text just where they are its tokens and it is well-formed. So clauses are cut where the grammar has them.
abbrev pub TextsAreTheirTokens : Type 0
TextsAreTheirTokens = (spelling : Spelling) (ts : List Symbol) (cs : List Clause) → IsText spelling cs ts ↔ ((ts ≡ text_tokens cs) × AreWellFormed spelling nothing_before true cs)

-- A machine keeps to the limits; its state variables are among its holes, each has its list of states, and its rules are numbered
-- from 1 in their order.
abbrev pub MachinesAreLimited : Type 0
MachinesAreLimited = (spelling : Spelling) (ts : List Symbol) (m : Machine) → IsMachine spelling ts m → IsLimited m

-- A text without a fault is a machine whose numbers are in range, and whose rules are sound; and so each machine is.
abbrev pub TextsAreKept : Type 0
TextsAreKept = (spelling : Spelling) (ts : List Symbol) (cs : List Clause) → IsText spelling cs ts → fault_of spelling cs ≡ None → IsKept (machine_of spelling cs)

abbrev pub MachinesAreKept : Type 0
MachinesAreKept = (spelling : Spelling) (ts : List Symbol) (m : Machine) → IsMachine spelling ts m → IsKept m
