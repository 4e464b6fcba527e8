-- Rules are numbered from 1 in their order, so the one with a number is found by counting.
use Rattle.std.proofs.Common.{◌≡◌, ℕ, suc, ◌+◌, cond, nat_eq, List, [], ◌∷◌, ◌++◌, length, map, Some, ap, refl, ◌∙◌, sym, subst, arith}
use Rattle.metal_grammar.specs.Written.{Row, lone, row, members, StateName, WrittenRule, Content, Nothing, Declares, Rules, Clause}
use Rattle.metal_grammar.specs.Phrases.{state_phrase, rule_phrase}
use Rattle.metal_grammar.specs.Rules.{size, behind_head, behind_clause, PlacedRule, rules_from, rules_of_content, count_of_rules, placed_rules, rules_of, rule_position}
use Rattle.metal_reader.specs.MetalPositions.Positions.{position_with}
use Rattle.metal_reader.specs.MetalPositions.Theorems.{RulesAreCounted}
use Rattle.metal_reader.proofs.MetalPositions.Rules.{rules_begin}

from_count : (number position : ℕ) (source : StateName) (rs : Row WrittenRule) → length (rules_from number position source rs) ≡ length (members rs)
from_count number position source (lone r) = refl
from_count number position source (row r rs) = ap suc (from_count (number + 1) (position + size (rule_phrase r) + 1) source rs)

pub content_count : (number position : ℕ) (c : Content) → length (rules_of_content number position c) ≡ count_of_rules c
content_count number position Nothing = refl
content_count number position (Declares d) = refl
content_count number position (Rules s) = from_count number (position + size (state_phrase s.source) + 1) s.source s.rules

-- these have the numbers from this one on
abbrev AreFrom : ℕ → List PlacedRule → Type 0
AreFrom n [] = Unit {0}
AreFrom n (r ∷ rs) = (r.number ≡ n) × AreFrom (n + 1) rs

rows_from : (n q : ℕ) (source : StateName) (rs : Row WrittenRule) → AreFrom n (rules_from n q source rs)
rows_from n q source (lone r) = (refl, tt)
rows_from n q source (row r rs) = (refl, rows_from (n + 1) (q + size (rule_phrase r) + 1) source rs)

content_from : (n q : ℕ) (c : Content) → AreFrom n (rules_of_content n q c)
content_from n q Nothing = tt
content_from n q (Declares d) = tt
content_from n q (Rules s) = rows_from n (q + size (state_phrase s.source) + 1) s.source s.rules

joined_from : (n m : ℕ) (xs ys : List PlacedRule) → AreFrom n xs → n + length xs ≡ m → AreFrom m ys → AreFrom n (xs ++ ys)
joined_from n m [] ys w e v = let s : m ≡ n = omega (arith, e) in subst (λ k. AreFrom k ys) s v
joined_from n m (x ∷ xs) ys w e v = (w.0, joined_from (n + 1) m xs ys w.1 (omega (arith, e)) v)

all_from : (n q : ℕ) (cs : List Clause) → AreFrom n (placed_rules n q cs)
all_from n q [] = tt
all_from n q (c ∷ cs) =
    let here = rules_of_content n (behind_head q c) c.content in
    let m = n + count_of_rules c.content in
    joined_from n m here (placed_rules m (behind_clause q c) cs) (content_from n (behind_head q c) c.content) (ap (λ k. n + k) (content_count n (behind_head q c) c.content)) (all_from m (behind_clause q c) cs)

counted : (before number : ℕ) (rs : List PlacedRule) → AreFrom (before + 1) rs → rule_position number rs ≡ position_with before number (map (λ r. r.position) rs)
counted before number [] w = refl
counted before number (r ∷ rs) w =
    ap (λ k. cond (nat_eq k number) (Some r.position) (rule_position number rs)) w.0
    ∙ ap (λ o. cond (nat_eq (before + 1) number) (Some r.position) o) (counted (before + 1) number rs w.1)

pub rules_are_counted : RulesAreCounted
rules_are_counted spelling ts cs number w = counted 0 number (rules_of cs) (all_from 1 0 cs) ∙ ap (position_with 0 number) (sym (rules_begin spelling ts cs w))
