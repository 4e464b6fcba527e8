-- The reader gives exactly the machine of symbols, or their first fault.
use Rattle.std.proofs.Common.{◌≡◌, ◌⊎◌, List, Option, None, Some, inl, inr, refl, ◌∙◌, sym, subst}
use Rattle.c_tree.specs.Symbol.{Symbol}
use Rattle.metal_grammar.specs.Words.{Spelling}
use Rattle.metal_grammar.specs.Written.{Clause}
use Rattle.metal_grammar.specs.Grammar.{IsText}
use Rattle.metal_tree.specs.MetalMachines.Machine.{Machine}
use Rattle.metal_grammar.specs.FirstFault.{Fault, fault_of}
use Rattle.metal_grammar.specs.Meaning.{machine_of}
use Rattle.metal_grammar.specs.Known.{StringsAreKnown}
use Rattle.metal_grammar.specs.Definition.{IsMachine, IsFirstFault}
use Rattle.metal_grammar.specs.Reading.{Clauses, AllRead, Unread, read_text, Answer, Accepted, Refused, judged, answer_of, read_machine}
use Rattle.metal_grammar.specs.Theorems.{TextsAreRead, SyntaxFaultsAreRead, MachinesAreRead, FirstFaultsAreRead, TextsAreUnique, MachinesAreUnique, FirstFaultsAreUnique, MachineOrFault, NeverBoth}
use Rattle.metal_grammar.proofs.Known.{texts_are_known}
use Rattle.metal_grammar.proofs.Texts.{text-sound, text-complete, syntax-sound, syntax-complete}

-- what is true of a text by what the reader answers
abbrev pub Answers : Spelling → List Symbol → Answer → Type 0
Answers spelling ts (Accepted m) = StringsAreKnown spelling ts → IsMachine spelling ts m
Answers spelling ts (Refused fault) = IsFirstFault spelling ts fault

judged-sound : (spelling : Spelling) (ts : List Symbol) (cs : List Clause) (o : Option Fault) → IsText spelling cs ts → fault_of spelling cs ≡ o → Answers spelling ts (judged (machine_of spelling cs) o)
judged-sound spelling ts cs None w e = λ k. (cs, w, e, texts_are_known spelling ts cs k w, refl)
judged-sound spelling ts cs (Some fault) w e = inr (cs, w, e)

answer-sound : (spelling : Spelling) (ts : List Symbol) (read : Clauses) → read_text spelling ts ≡ read → Answers spelling ts (answer_of spelling read)
answer-sound spelling ts (AllRead cs) e = judged-sound spelling ts cs (fault_of spelling cs) (text-sound spelling ts cs e) refl
answer-sound spelling ts (Unread at) e = inl (at, syntax-sound spelling ts at e, refl)

-- the answer is true
pub machine-sound : (spelling : Spelling) (ts : List Symbol) → Answers spelling ts (read_machine spelling ts)
machine-sound spelling ts = answer-sound spelling ts (read_text spelling ts) refl

pub machine-complete : (spelling : Spelling) (ts : List Symbol) (m : Machine) → IsMachine spelling ts m → read_machine spelling ts ≡ Accepted m
machine-complete spelling ts m (cs, w, n, k, e) = rw (text-complete spelling ts cs w, n, sym e) refl

pub fault-complete : (spelling : Spelling) (ts : List Symbol) (fault : Fault) → IsFirstFault spelling ts fault → read_machine spelling ts ≡ Refused fault
fault-complete spelling ts fault (inl (at, w, e)) = rw (syntax-complete spelling ts at w, sym e) refl
fault-complete spelling ts fault (inr (cs, w, e)) = rw (text-complete spelling ts cs w, e) refl

accepted : (spelling : Spelling) (ts : List Symbol) (answer : Answer) (m : Machine) → StringsAreKnown spelling ts → Answers spelling ts answer → answer ≡ Accepted m → IsMachine spelling ts m
accepted spelling ts (Accepted x) m k a e = let q : x ≡ m = cc in subst (IsMachine spelling ts) q (a k)
accepted spelling ts (Refused fault) m k a e = cc

refused : (spelling : Spelling) (ts : List Symbol) (answer : Answer) (fault : Fault) → Answers spelling ts answer → answer ≡ Refused fault → IsFirstFault spelling ts fault
refused spelling ts (Accepted x) fault a e = cc
refused spelling ts (Refused x) fault a e = let q : x ≡ fault = cc in subst (IsFirstFault spelling ts) q a

one_or_other : (spelling : Spelling) (ts : List Symbol) (answer : Answer) → StringsAreKnown spelling ts → Answers spelling ts answer → ((m : Machine) × IsMachine spelling ts m) ⊎ ((fault : Fault) × IsFirstFault spelling ts fault)
one_or_other spelling ts (Accepted m) k a = inl (m, a k)
one_or_other spelling ts (Refused fault) k a = inr (fault, a)

-- the theorems
pub texts_are_read : TextsAreRead
texts_are_read spelling ts cs = (text-sound spelling ts cs, text-complete spelling ts cs)

pub syntax_faults_are_read : SyntaxFaultsAreRead
syntax_faults_are_read spelling ts at = (syntax-sound spelling ts at, syntax-complete spelling ts at)

pub machines_are_read : MachinesAreRead
machines_are_read spelling ts m k = (accepted spelling ts (read_machine spelling ts) m k (machine-sound spelling ts), machine-complete spelling ts m)

pub first_faults_are_read : FirstFaultsAreRead
first_faults_are_read spelling ts fault = (refused spelling ts (read_machine spelling ts) fault (machine-sound spelling ts), fault-complete spelling ts fault)

pub texts_are_unique : TextsAreUnique
texts_are_unique spelling ts a b p q =
    let e : AllRead a ≡ AllRead b = sym (text-complete spelling ts a p) ∙ text-complete spelling ts b q in
    cc

pub machines_are_unique : MachinesAreUnique
machines_are_unique spelling ts a b p q =
    let e : Accepted a ≡ Accepted b = sym (machine-complete spelling ts a p) ∙ machine-complete spelling ts b q in
    cc

pub first_faults_are_unique : FirstFaultsAreUnique
first_faults_are_unique spelling ts a b p q =
    let e : Refused a ≡ Refused b = sym (fault-complete spelling ts a p) ∙ fault-complete spelling ts b q in
    cc

pub machine_or_fault : MachineOrFault
machine_or_fault spelling ts k = one_or_other spelling ts (read_machine spelling ts) k (machine-sound spelling ts)

pub never_both : NeverBoth
never_both spelling ts m fault p q =
    let e : Accepted m ≡ Refused fault = sym (machine-complete spelling ts m p) ∙ fault-complete spelling ts fault q in
    cc
