-- The reader over lists of symbols.
use Rattle.std.specs.Prelude.{ℕ, ◌+◌, Bool, true, false, cond, ◌&&◌, List, [], ◌∷◌, length, Option, None, Some}
use Rattle.c_tree.specs.declared.punctuator.Punctuator.TheVariants as marks
use Rattle.c_tree.specs.Symbol.{Symbol}
use Rattle.c_grammar.specs.Symbols.{after_sign}
use Rattle.c_grammar.specs.Found.{◌>>=◌, if_there}
use Rattle.metal_grammar.specs.Words.{Spelling}
use Rattle.metal_grammar.specs.Written.{Clause}
use Rattle.metal_grammar.specs.Clauses.{clauses_of}
use Rattle.metal_grammar.specs.Grammar.{Before, nothing_before, behind_content, is_head, is_content, is_last}
use Rattle.metal_tree.specs.MetalMachines.Machine.{Machine}
use Rattle.metal_grammar.specs.FirstFault.{Fault, SyntaxAt, fault_of}
use Rattle.metal_grammar.specs.Meaning.{machine_of}
use Rattle.metal_grammar.specs.Ways.Steps.{Step, take_word, read_content}

-- the head of the first clause
abbrev pub read_head : Bool → Step (Option (ℕ × ℕ))
read_head true ts = take_word ts >>= λ w. take_word w.1 >>= λ name. after_sign marks.OpenBrace name.1 >>= λ rest. Some (Some (w.0, name.0), rest)
read_head false ts = Some (None, ts)

-- what follows the last clause's closing brace
abbrev pub after_closing : Bool → List Symbol → Option (List Symbol)
after_closing true ts = after_sign marks.CloseBrace ts
after_closing false ts = Some ts

abbrev pub if_at_end : Clause → List Symbol → Option Clause
if_at_end c [] = Some c
if_at_end c (t ∷ ts) = None

-- the clause of all these symbols
abbrev pub read_clause : Spelling → Before → Bool → Bool → List Symbol → Option Clause
read_clause spelling before is_first is_last ts =
    read_head is_first ts >>= λ head. read_content spelling (is_first && is_last) head.1 >>= λ content. after_closing is_last content.1 >>= λ rest.
    cond (is_head spelling head.0 && is_content spelling before content.0) (if_at_end (record { head = head.0; content = content.0; closing = is_last }) rest) None

-- all clauses, or the position of the first one that isn't read
pub data Clauses : Type 0 where
  AllRead : List Clause → Clauses
  Unread : ℕ → Clauses

abbrev pub with_clause : Clause → Clauses → Clauses
with_clause c (AllRead cs) = AllRead (c ∷ cs)
with_clause c (Unread at) = Unread at

abbrev pub read_clauses : Spelling → Before → Bool → ℕ → List (List Symbol) → Clauses
read_clauses spelling before is_first position [] = AllRead []
read_clauses spelling before is_first position (ts ∷ others) =
    if_there (read_clause spelling before is_first (is_last others) ts) (Unread position) (λ c. with_clause c (read_clauses spelling (behind_content spelling c.content before) false (position + length ts) others))

abbrev pub read_text : Spelling → List Symbol → Clauses
read_text spelling ts = read_clauses spelling nothing_before true 0 (clauses_of ts)

-- a machine or a fault
pub data Answer : Type 0 where
  Accepted : Machine → Answer
  Refused : Fault → Answer

abbrev pub judged : Machine → Option Fault → Answer
judged m None = Accepted m
judged m (Some fault) = Refused fault

abbrev pub answer_of : Spelling → Clauses → Answer
answer_of spelling (AllRead cs) = judged (machine_of spelling cs) (fault_of spelling cs)
answer_of spelling (Unread at) = Refused (SyntaxAt at)

-- the machine of these symbols, or their first fault
abbrev pub read_machine : Spelling → List Symbol → Answer
read_machine spelling ts = answer_of spelling (read_text spelling ts)
