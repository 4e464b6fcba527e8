-- How many rules a text may have, and where they begin.
use Rattle.std.proofs.Common.{◌≡◌, ℕ, zero, suc, false, [], ◌∷◌, None, Some, refl}
use Rattle.c_tree.specs.Syntax.{Primary, Ident}
use Rattle.metal_grammar.specs.Written.{Row, lone, row, OfMachine, Pattern, To, WrittenRule, Rules, Clause}
use Rattle.metal_grammar.specs.Rules.{count_of_rules, rules_of, rule_position}
use Rattle.metal_grammar.specs.Faults.{passing}
use Rattle.metal_tree.specs.MetalMachines.Limits.{most_rules}
use Rattle.metal_grammar.proofs.Vocabulary.{x}

-- `{ x } ==> a`, of five symbols
abbrev one_rule : WrittenRule
one_rule = record { alternatives = lone (lone (Pattern (Primary (Ident x)) false)); destination = To (OfMachine 1); action = None }

-- one rule more than the number
abbrev rules : ℕ → Row WrittenRule
rules zero = lone one_rule
rules (suc n) = row one_rule (rules n)

-- `a: { x } ==> a | .. ;`
abbrev section : ℕ → Clause
section n = record { head = None; content = Rules (record { source = OfMachine 1; rules = rules n }); closing = false }

a_thousand_rules : passing count_of_rules most_rules 0 0 (section 799 ∷ section 199 ∷ []) ≡ None
a_thousand_rules = refl

-- the first clause has 2 + 800 * 6 symbols
one_rule_more : passing count_of_rules most_rules 0 0 (section 799 ∷ section 200 ∷ section 0 ∷ []) ≡ Some 4802
one_rule_more = refl

first_rule : rule_position 1 (rules_of (section 1 ∷ section 0 ∷ [])) ≡ Some 2
first_rule = refl

second_rule : rule_position 2 (rules_of (section 1 ∷ section 0 ∷ [])) ≡ Some 8
second_rule = refl

-- behind the `;` of the first section and the source of the second
third_rule : rule_position 3 (rules_of (section 1 ∷ section 0 ∷ [])) ≡ Some 16
third_rule = refl

no_fourth_rule : rule_position 4 (rules_of (section 1 ∷ section 0 ∷ [])) ≡ None
no_fourth_rule = refl
