-- Which machine a text is, and which fault it has first.
use Rattle.std.specs.Prelude.{◌≡◌, ◌⊎◌, ℕ, List, None, Some}
use Rattle.c_tree.specs.Symbol.{Symbol}
use Rattle.metal_grammar.specs.Words.{Spelling}
use Rattle.metal_grammar.specs.Written.{Clause}
use Rattle.metal_grammar.specs.Grammar.{IsText, IsSyntaxFault}
use Rattle.metal_tree.specs.MetalMachines.Machine.{Machine}
use Rattle.metal_grammar.specs.FirstFault.{Fault, SyntaxAt, fault_of}
use Rattle.metal_grammar.specs.Known.{AreKnown}
use Rattle.metal_grammar.specs.Meaning.{machine_of}

-- The symbols are a text without a fault, the texts of its callouts are names, and this is its machine.
abbrev pub IsMachine : Spelling → List Symbol → Machine → Type 0
IsMachine spelling ts m = (cs : List Clause) × IsText spelling cs ts × (fault_of spelling cs ≡ None) × AreKnown spelling cs × (m ≡ machine_of spelling cs)

-- A clause has no parse; or all have one, and this is the first of the other faults.
abbrev pub IsFirstFault : Spelling → List Symbol → Fault → Type 0
IsFirstFault spelling ts fault =
    ((at : ℕ) × IsSyntaxFault spelling ts at × (fault ≡ SyntaxAt at))
    ⊎ ((cs : List Clause) × IsText spelling cs ts × (fault_of spelling cs ≡ Some fault))
