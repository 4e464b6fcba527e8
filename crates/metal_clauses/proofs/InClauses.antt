-- What is read of a clause, part by part.
use Rattle.std.proofs.Common.{◌≡◌, ℕ, Bool, true, false, cond, ◌&&◌, List, [], ◌∷◌, Option, None, Some, ap, refl, ◌∙◌}
use Rattle.c_tree.specs.Symbol.{Symbol}
use Rattle.c_grammar.specs.Found.{◌>>=◌}
use Rattle.metal_grammar.specs.Words.{Spelling}
use Rattle.metal_grammar.specs.Written.{Content, Clause}
use Rattle.metal_grammar.specs.Grammar.{Before, is_head, is_content}
use Rattle.metal_grammar.specs.Ways.Steps.{read_content}
use Rattle.metal_grammar.specs.Reading.{read_head, after_closing, if_at_end, read_clause}
use Rattle.metal_clauses.specs.Ways.Steps.{is_nothing}

abbrev clause_with : Bool → Option (ℕ × ℕ) → Content → Clause
clause_with is_last head content = record { head = head; content = content; closing = is_last }

-- what follows the content
abbrev after_content : Spelling → Before → Bool → Option (ℕ × ℕ) → Content → List Symbol → Option Clause
after_content s b is_last head content rest = after_closing is_last rest >>= λ end. cond (is_head s head && is_content s b content) (if_at_end (clause_with is_last head content) end) None

-- what follows the head
abbrev after_head : Spelling → Before → Bool → Bool → Option (ℕ × ℕ) × List Symbol → Option Clause
after_head s b is_first is_last head = read_content s (is_first && is_last) head.1 >>= λ content. after_content s b is_last head.0 content.0 content.1

-- the end of the clause, where it is of the language or not
abbrev at_end : Bool → Clause → Option (List Symbol) → Option Clause
at_end well c o = o >>= λ end. cond well (if_at_end c end) None

ended : (c : Clause) (o : Option (List Symbol)) → is_nothing o ≡ true → at_end true c o ≡ Some c
ended c None m = cc
ended c (Some []) m = refl
ended c (Some (x ∷ xs)) m = cc

not_ended : (c : Clause) (well : Bool) (o : Option (List Symbol)) → is_nothing o ≡ false → at_end well c o ≡ None
not_ended c well None m = refl
not_ended c well (Some []) m = cc
not_ended c true (Some (x ∷ xs)) m = refl
not_ended c false (Some (x ∷ xs)) m = refl

ill : (c : Clause) (o : Option (List Symbol)) → at_end false c o ≡ None
ill c None = refl
ill c (Some end) = refl

both_false : (v w : Bool) → w ≡ false → (v && w) ≡ false
both_false true w e = e
both_false false w e = refl

module _ (s : Spelling) (b : Before) (is_first is_last : Bool) (ts : List Symbol) where
  pub clause-headless : read_head is_first ts ≡ None → read_clause s b is_first is_last ts ≡ None
  clause-headless h = ap (λ o. o >>= after_head s b is_first is_last) h

  pub clause-empty : (head : Option (ℕ × ℕ)) (behind : List Symbol) → read_head is_first ts ≡ Some (head, behind) → read_content s (is_first && is_last) behind ≡ None → read_clause s b is_first is_last ts ≡ None
  clause-empty head behind h k = ap (λ o. o >>= after_head s b is_first is_last) h ∙ ap (λ o. o >>= λ content. after_content s b is_last head content.0 content.1) k

  filled : (head : Option (ℕ × ℕ)) (behind rest : List Symbol) (content : Content) → read_head is_first ts ≡ Some (head, behind) → read_content s (is_first && is_last) behind ≡ Some (content, rest)
      → read_clause s b is_first is_last ts ≡ at_end (is_head s head && is_content s b content) (clause_with is_last head content) (after_closing is_last rest)
  filled head behind rest content h k = ap (λ o. o >>= after_head s b is_first is_last) h ∙ ap (λ o. o >>= λ c. after_content s b is_last head c.0 c.1) k

  pub clause-whole : (head : Option (ℕ × ℕ)) (behind rest : List Symbol) (content : Content) → read_head is_first ts ≡ Some (head, behind) → read_content s (is_first && is_last) behind ≡ Some (content, rest)
      → is_nothing (after_closing is_last rest) ≡ true → is_head s head ≡ true → is_content s b content ≡ true
      → read_clause s b is_first is_last ts ≡ Some (clause_with is_last head content)
  clause-whole head behind rest content h k n i c =
      filled head behind rest content h k
      ∙ ap (λ w. at_end w (clause_with is_last head content) (after_closing is_last rest)) (ap (λ v. v && is_content s b content) i ∙ c)
      ∙ ended (clause_with is_last head content) (after_closing is_last rest) n

  pub clause-longer : (head : Option (ℕ × ℕ)) (behind rest : List Symbol) (content : Content) → read_head is_first ts ≡ Some (head, behind) → read_content s (is_first && is_last) behind ≡ Some (content, rest)
      → is_nothing (after_closing is_last rest) ≡ false → read_clause s b is_first is_last ts ≡ None
  clause-longer head behind rest content h k n =
      filled head behind rest content h k ∙ not_ended (clause_with is_last head content) (is_head s head && is_content s b content) (after_closing is_last rest) n

  pub clause-misnamed : (head : Option (ℕ × ℕ)) (behind rest : List Symbol) (content : Content) → read_head is_first ts ≡ Some (head, behind) → read_content s (is_first && is_last) behind ≡ Some (content, rest)
      → is_head s head ≡ false → read_clause s b is_first is_last ts ≡ None
  clause-misnamed head behind rest content h k i =
      filled head behind rest content h k
      ∙ ap (λ v. at_end (v && is_content s b content) (clause_with is_last head content) (after_closing is_last rest)) i
      ∙ ill (clause_with is_last head content) (after_closing is_last rest)

  pub clause-ill : (head : Option (ℕ × ℕ)) (behind rest : List Symbol) (content : Content) → read_head is_first ts ≡ Some (head, behind) → read_content s (is_first && is_last) behind ≡ Some (content, rest)
      → is_content s b content ≡ false → read_clause s b is_first is_last ts ≡ None
  clause-ill head behind rest content h k i =
      filled head behind rest content h k
      ∙ ap (λ w. at_end w (clause_with is_last head content) (after_closing is_last rest)) (both_false (is_head s head) (is_content s b content) i)
      ∙ ill (clause_with is_last head content) (after_closing is_last rest)
