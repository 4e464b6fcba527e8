-- What is proved of the positions of rules.
use Rattle.std.specs.Prelude.{◌≡◌, ℕ, List}
use Rattle.c_tree.specs.Symbol.{Symbol}
use Rattle.metal_grammar.specs.Words.{Spelling}
use Rattle.metal_grammar.specs.Written.{Clause}
use Rattle.metal_grammar.specs.Grammar.{IsText}
use Rattle.metal_grammar.specs.Rules.{rules_of, rule_position}
use Rattle.metal_reader.specs.MetalPositions.Positions.{beginnings, position_with}

-- The rule with a number is found by counting the positions at which rules begin.
abbrev pub RulesAreCounted : Type 0
RulesAreCounted = (spelling : Spelling) (ts : List Symbol) (cs : List Clause) (number : ℕ) → IsText spelling cs ts → rule_position number (rules_of cs) ≡ position_with 0 number (beginnings 0 0 ts)
