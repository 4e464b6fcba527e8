-- What a refusal says.
use Rattle.std.proofs.Common.{◌≡◌, ◌⊎◌, inl, inr, ℕ, List, Option, None, Some, Result, Ok, Err, IfOk, IfErr, ap, refl, ◌∙◌}
use Rattle.c_tree.specs.Symbol.{Symbol}
use Rattle.metal_grammar.specs.Words.{Spelling}
use Rattle.metal_grammar.specs.Written as text
use Rattle.metal_grammar.specs.FirstFault as first
use Rattle.metal_grammar.specs.FirstFault.{fault_of}
use Rattle.metal_grammar.specs.Grammar.{IsText}
use Rattle.metal_grammar.specs.Known.{AreKnown}
use Rattle.metal_grammar.specs.Definition.{IsMachine}
use Rattle.metal_grammar.specs.Meaning.{machine_of}
use Rattle.metal_tree.specs.declared.machine.Machine.{Machine}
use Rattle.metal_tree.specs.Whole.{machine_view}
use Rattle.metal_grammar.specs.Reading.{read_text}
use Rattle.metal_grammar.proofs.Machines.{syntax_faults_are_read}
use Rattle.metal_clauses.specs.declared.fault.ClauseFault.{ClauseFault}
use Rattle.metal_clauses.specs.declared.fault.ClauseFault.TheVariants as clause
use Rattle.metal_clauses.specs.Read.{IsUnread}
use Rattle.metal_reader.specs.declared.metal_faults.fault.MetalFault.{MetalFault}
use Rattle.metal_reader.specs.declared.metal_faults.fault.MetalFault.TheVariants as faults
use Rattle.metal_reader.specs.MetalFaults.ClauseFaults.{metal_fault}
use Rattle.metal_reader.specs.MetalFaults.Faults.{fault_in}
use Rattle.metal_reader.specs.Faults.{IsFault, Refuses}
use Rattle.metal_reader.specs.MetalFaults.FirstFaults.{Says}

-- memory ran out, or this is the first fault of the symbols
abbrev pub IsRefused : Spelling → List Symbol → ℕ → MetalFault → Type 0
IsRefused spelling ts file e = (e ≡ faults.NoMemory) ⊎ IsFault spelling ts file e

pub refuses : (spelling : Spelling) (ts : List Symbol) (file : ℕ) (e : MetalFault) → IsRefused spelling ts file e → Refuses spelling ts file e
refuses spelling ts file faults.NoMemory h = tt
refuses spelling ts file (faults.Syntax p) (inl h) = cc
refuses spelling ts file (faults.Syntax p) (inr h) = h
refuses spelling ts file (faults.TooMany w p) (inl h) = cc
refuses spelling ts file (faults.TooMany w p) (inr h) = h
refuses spelling ts file (faults.Twice n p) (inl h) = cc
refuses spelling ts file (faults.Twice n p) (inr h) = h
refuses spelling ts file (faults.UnknownCallout n p) (inl h) = cc
refuses spelling ts file (faults.UnknownCallout n p) (inr h) = h
refuses spelling ts file (faults.TwoVariables r) (inl h) = cc
refuses spelling ts file (faults.TwoVariables r) (inr h) = h
refuses spelling ts file (faults.BadSplit r) (inl h) = cc
refuses spelling ts file (faults.BadSplit r) (inr h) = h
refuses spelling ts file (faults.BadSource r) (inl h) = cc
refuses spelling ts file (faults.BadSource r) (inr h) = h
refuses spelling ts file (faults.VariableMissing r) (inl h) = cc
refuses spelling ts file (faults.VariableMissing r) (inr h) = h
refuses spelling ts file (faults.BadFormat r) (inl h) = cc
refuses spelling ts file (faults.BadFormat r) (inr h) = h

-- a clause that has no parse
pub unread : (spelling : Spelling) (ts : List Symbol) (file : ℕ) (fault : ClauseFault) (e : MetalFault) → e ≡ metal_fault fault → IsUnread (read_text spelling ts) file fault → IsRefused spelling ts file e
unread spelling ts file clause.NoMemory e h w = inl h
unread spelling ts file (clause.Syntax p) e h (at, r, k) =
    inr (first.SyntaxAt at, inl (at, (syntax_faults_are_read spelling ts at).0 r, refl), h ∙ ap metal_fault k)

-- another fault
pub said : (spelling : Spelling) (ts : List Symbol) (cs : List text.Clause) (file : ℕ) (e : MetalFault) → IsText spelling cs ts
    → (e ≡ faults.NoMemory) ⊎ ((fault : first.Fault) × (fault_of spelling cs ≡ Some fault) × (e ≡ fault_in file fault)) → IsRefused spelling ts file e
said spelling ts cs file e w (inl h) = inl h
said spelling ts cs file e w (inr (fault, h, k)) = inr (fault, inr (cs, w, h), k)

-- the machine of a text, or its refusal
pub is_machine : (result : Result Machine MetalFault) (spelling : Spelling) (ts : List Symbol) (cs : List text.Clause) (file : ℕ) → IsText spelling cs ts → AreKnown spelling cs
    → Says file result (fault_of spelling cs) → IfOk result (λ m. machine_view m ≡ machine_of spelling cs) → IfOk result (λ m. IsMachine spelling ts (machine_view m))
is_machine (Ok m) spelling ts cs file w k s e = (cs, w, s, k, e)
is_machine (Err f) spelling ts cs file w k s e = tt

pub is_refused : (result : Result Machine MetalFault) (spelling : Spelling) (ts : List Symbol) (cs : List text.Clause) (file : ℕ) → IsText spelling cs ts
    → Says file result (fault_of spelling cs) → IfErr result (λ e. Refuses spelling ts file e)
is_refused (Ok m) spelling ts cs file w s = tt
is_refused (Err f) spelling ts cs file w s = refuses spelling ts file f (said spelling ts cs file f w s)

-- faults before the rules, and then those of the rules
pub says_later : (result : Result Machine MetalFault) (file : ℕ) (a b whole : Option first.Fault) → whole ≡ first.or_else a b → a ≡ None → Says file result b → Says file result whole
says_later (Ok m) file a b whole w n h = w ∙ ap (λ o. first.or_else o b) n ∙ h
says_later (Err e) file a b whole w n (inl h) = inl h
says_later (Err e) file a b whole w n (inr (fault, h, k)) = inr (fault, w ∙ ap (λ o. first.or_else o b) n ∙ h, k)

pub says_first : (e : MetalFault) (file : ℕ) (a b whole : Option first.Fault) → whole ≡ first.or_else a b
    → (e ≡ faults.NoMemory) ⊎ ((fault : first.Fault) × (a ≡ Some fault) × (e ≡ fault_in file fault)) → (e ≡ faults.NoMemory) ⊎ ((fault : first.Fault) × (whole ≡ Some fault) × (e ≡ fault_in file fault))
says_first e file a b whole w (inl h) = inl h
says_first e file a b whole w (inr (fault, h, k)) = inr (fault, w ∙ ap (λ o. first.or_else o b) h, k)
