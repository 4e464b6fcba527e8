-- The reader of whole texts gives exactly their clauses, or the first one without a parse.
use Rattle.std.proofs.Common.{◌≡◌, ℕ, ◌+◌, Bool, false, List, [], ◌∷◌, length, Option, None, Some, inl, inr, refl, subst}
use Rattle.c_tree.specs.Symbol.{Symbol}
use Rattle.c_grammar.proofs.Options.{chosen}
use Rattle.metal_grammar.specs.Words.{Spelling}
use Rattle.metal_grammar.specs.Written.{Clause}
use Rattle.metal_grammar.specs.Clauses.{clauses_of}
use Rattle.metal_grammar.specs.Grammar.{Before, nothing_before, behind_content, IsClause, is_last, AreClauses, IsText, IsUnread, IsSyntaxFault}
use Rattle.metal_grammar.specs.Reading.{read_clause, Clauses, AllRead, Unread, with_clause, read_clauses, read_text}
use Rattle.metal_grammar.proofs.Sound.{clause-sound}
use Rattle.metal_grammar.proofs.Complete.{clause-complete}

all_read : (c : Clause) (rest : Clauses) (cs : List Clause) → with_clause c rest ≡ AllRead cs → (xs : List Clause) × (rest ≡ AllRead xs) × (c ∷ xs ≡ cs)
all_read c (AllRead xs) cs h = (xs, refl, cc h)
all_read c (Unread at) cs h = cc

unread : (c : Clause) (rest : Clauses) (at : ℕ) → with_clause c rest ≡ Unread at → rest ≡ Unread at
unread c (AllRead xs) at h = cc
unread c (Unread x) at h = h

clauses-sound : (spelling : Spelling) (before : Before) (is_first : Bool) (position : ℕ) (tss : List (List Symbol)) (cs : List Clause)
    → read_clauses spelling before is_first position tss ≡ AllRead cs → AreClauses spelling before is_first cs tss
clauses-sound spelling before is_first position [] cs h = let q : [] ≡ cs = cc in subst (λ x. AreClauses spelling before is_first x []) q tt
clauses-sound spelling before is_first position (ts ∷ others) cs h =
    elim (chosen (read_clause spelling before is_first (is_last others) ts) _ _ _ h) as (λ _. AreClauses spelling before is_first cs (ts ∷ others)) [
      | inl o ↦ let d = o.1 in cc
      | inr o ↦
          let after = behind_content spelling o.0.content before in
          let a = all_read o.0 (read_clauses spelling after false (position + length ts) others) cs o.2 in
          let w : AreClauses spelling before is_first (o.0 ∷ a.0) (ts ∷ others) =
          (clause-sound spelling before is_first (is_last others) ts o.0 o.1, clauses-sound spelling after false (position + length ts) others a.0 a.1) in
          subst (λ x. AreClauses spelling before is_first x (ts ∷ others)) a.2 w
    ]

clauses-complete : (spelling : Spelling) (before : Before) (is_first : Bool) (position : ℕ) (tss : List (List Symbol)) (cs : List Clause)
    → AreClauses spelling before is_first cs tss → read_clauses spelling before is_first position tss ≡ AllRead cs
clauses-complete spelling before is_first position [] [] w = refl
clauses-complete spelling before is_first position [] (c ∷ cs) w = absurd w
clauses-complete spelling before is_first position (ts ∷ others) [] w = absurd w
clauses-complete spelling before is_first position (ts ∷ others) (c ∷ cs) w =
    rw (
      clause-complete spelling before is_first (is_last others) ts c w.0,
      clauses-complete spelling (behind_content spelling c.content before) false (position + length ts) others cs w.1,
    ) refl

unread-sound : (spelling : Spelling) (before : Before) (is_first : Bool) (position : ℕ) (tss : List (List Symbol)) (at : ℕ)
    → read_clauses spelling before is_first position tss ≡ Unread at → IsUnread spelling before is_first position tss at
unread-sound spelling before is_first position [] at h = cc
unread-sound spelling before is_first position (ts ∷ others) at h =
    elim (chosen (read_clause spelling before is_first (is_last others) ts) _ _ _ h) as (λ _. IsUnread spelling before is_first position (ts ∷ others) at) [
      | inl o ↦
          let q : at ≡ position = cc (o.1) in
          let n : (c : Clause) → IsClause spelling before is_first (is_last others) c ts → ⊥ = λ c p. let s = clause-complete spelling before is_first (is_last others) ts c p in let e = o.0 in cc in
          inl (q, n)
      | inr o ↦
          let after = behind_content spelling o.0.content before in
          let a = unread o.0 (read_clauses spelling after false (position + length ts) others) at o.2 in
          inr (o.0, clause-sound spelling before is_first (is_last others) ts o.0 o.1, unread-sound spelling after false (position + length ts) others at a)
    ]

no_clause : (spelling : Spelling) (before : Before) (is_first is_last : Bool) (ts : List Symbol) → ((c : Clause) → IsClause spelling before is_first is_last c ts → ⊥) → read_clause spelling before is_first is_last ts ≡ None
no_clause spelling before is_first is_last ts n = by (read_clause spelling before is_first is_last ts) refl
  where
    by : (o : Option Clause) → read_clause spelling before is_first is_last ts ≡ o → read_clause spelling before is_first is_last ts ≡ None
    by None e = e
    by (Some c) e = absurd (n c (clause-sound spelling before is_first is_last ts c e))

unread-complete : (spelling : Spelling) (before : Before) (is_first : Bool) (position : ℕ) (tss : List (List Symbol)) (at : ℕ)
    → IsUnread spelling before is_first position tss at → read_clauses spelling before is_first position tss ≡ Unread at
unread-complete spelling before is_first position [] at w = absurd w
unread-complete spelling before is_first position (ts ∷ others) at (inl w) =
    rw (no_clause spelling before is_first (is_last others) ts w.1, w.0) refl
unread-complete spelling before is_first position (ts ∷ others) at (inr w) =
    rw (
      clause-complete spelling before is_first (is_last others) ts w.0 w.1,
      unread-complete spelling (behind_content spelling w.0.content before) false (position + length ts) others at w.2,
    ) refl

pub text-sound : (spelling : Spelling) (ts : List Symbol) (cs : List Clause) → read_text spelling ts ≡ AllRead cs → IsText spelling cs ts
text-sound spelling ts cs h = clauses-sound spelling nothing_before _ 0 (clauses_of ts) cs h

pub text-complete : (spelling : Spelling) (ts : List Symbol) (cs : List Clause) → IsText spelling cs ts → read_text spelling ts ≡ AllRead cs
text-complete spelling ts cs w = clauses-complete spelling nothing_before _ 0 (clauses_of ts) cs w

pub syntax-sound : (spelling : Spelling) (ts : List Symbol) (at : ℕ) → read_text spelling ts ≡ Unread at → IsSyntaxFault spelling ts at
syntax-sound spelling ts at h = unread-sound spelling nothing_before _ 0 (clauses_of ts) at h

pub syntax-complete : (spelling : Spelling) (ts : List Symbol) (at : ℕ) → IsSyntaxFault spelling ts at → read_text spelling ts ≡ Unread at
syntax-complete spelling ts at w = unread-complete spelling nothing_before _ 0 (clauses_of ts) at w
