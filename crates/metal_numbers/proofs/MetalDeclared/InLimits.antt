-- What is counted over the clauses of a text.
use Rattle.std.proofs.Common.{◌≡◌, ℕ, ◌+◌, ◌<◌, ◌≤◌, true, false, cond, nat_lt, List, length, get_or, drop, None, Some, ap, ◌∙◌, sym, arith}
use Rattle.std.proofs.lemmas.Bool.Decides.{nat_tests}
use Rattle.metal_grammar.specs.Written.{Content}
use Rattle.metal_grammar.specs.Phrases.{clause_tokens}
use Rattle.metal_grammar.specs.Rules.{behind_clause}
use Rattle.metal_grammar.specs.Faults.{passing}
use Rattle.metal_written.specs.declared.written.Clause.{Clause}
use Rattle.metal_written.specs.Sizes.{ClauseHasSizes, ClausesHaveSizes}
use Rattle.metal_written.specs.Written.{content_view, clause_view, clause_views}
use Rattle.metal_written.proofs.Any.{mapped-drop, mapped-end}
use Rattle.metal_written.proofs.InSizes.{sizes-next, total-next}

pub sizes_here : (cs : List Clause) (i : ℕ) (d : Clause) → i < length cs → ClausesHaveSizes (drop i cs) → ClauseHasSizes (get_or cs i d)
sizes_here cs i d h s = (sizes-next cs i d h s).0

pub sizes_rest : (cs : List Clause) (i : ℕ) (d : Clause) → i < length cs → ClausesHaveSizes (drop i cs) → ClausesHaveSizes (drop (i + 1) cs)
sizes_rest cs i d h s = (sizes-next cs i d h s).1

pub size_here : (cs : List Clause) (i : ℕ) (d : Clause) → i < length cs → ClausesHaveSizes (drop i cs) → (get_or cs i d).size ≡ length (clause_tokens (clause_view (get_or cs i d)))
size_here cs i d h s = (sizes-next cs i d h s).0.0

module _ (count : Content → ℕ) (limit : ℕ) where
  pub passing_on : (cs : List Clause) (i : ℕ) (d : Clause) (before position : ℕ) → i < length cs → (get_or cs i d).size ≡ length (clause_tokens (clause_view (get_or cs i d)))
      → before + count (content_view (get_or cs i d).content) ≤ limit
      → passing count limit before position (clause_views (drop i cs)) ≡ passing count limit (before + count (content_view (get_or cs i d).content)) (position + (get_or cs i d).size) (clause_views (drop (i + 1) cs))
  passing_on cs i d before position h s n =
      let e : nat_lt limit (before + count (content_view (get_or cs i d).content)) ≡ false = grind (arith, nat_tests) in
      ap (passing count limit before position) (mapped-drop clause_view cs i d h)
      ∙ ap (λ b. cond b (Some position) (passing count limit (before + count (content_view (get_or cs i d).content)) (behind_clause position (clause_view (get_or cs i d))) (clause_views (drop (i + 1) cs)))) e
      ∙ ap (λ k. passing count limit (before + count (content_view (get_or cs i d).content)) (position + k) (clause_views (drop (i + 1) cs))) (sym s)

  pub passing_here : (cs : List Clause) (i : ℕ) (d : Clause) (before position : ℕ) → i < length cs → limit < before + count (content_view (get_or cs i d).content)
      → passing count limit before position (clause_views (drop i cs)) ≡ Some position
  passing_here cs i d before position h n =
      let e : nat_lt limit (before + count (content_view (get_or cs i d).content)) ≡ true = grind (arith, nat_tests) in
      ap (passing count limit before position) (mapped-drop clause_view cs i d h)
      ∙ ap (λ b. cond b (Some position) (passing count limit (before + count (content_view (get_or cs i d).content)) (behind_clause position (clause_view (get_or cs i d))) (clause_views (drop (i + 1) cs)))) e

  pub passing_end : (cs : List Clause) (i before position : ℕ) → length cs ≤ i → passing count limit before position (clause_views (drop i cs)) ≡ None
  passing_end cs i before position h = ap (passing count limit before position) (mapped-end clause_view cs i h)

pub ruleset passes = (sizes_here, sizes_rest, size_here, total-next, passing_on, passing_here, passing_end)
