-- The order of the faults.
use Rattle.std.specs.Prelude.{ℕ, cond, List, [], ◌∷◌, map, Option, None, Some}
use Rattle.metal_tree.specs.MetalMachines.Limits.{most_variables, most_holes, most_rules}
use Rattle.metal_grammar.specs.Words.{Spelling}
use Rattle.metal_grammar.specs.Written.{Clause}
use Rattle.metal_grammar.specs.Holes.{DeclaredHole}
use Rattle.metal_grammar.specs.Rules.{Declared, declared_names, holes_of, variables_among, count_of_rules, PlacedRule, rules_of}
use Rattle.metal_grammar.specs.Faults.{count_of_holes, count_of_variables, passing, repeated, unknown_callouts, names_two_variables, is_bad_split, is_bad_source, lacks_variable, is_bad_format}

pub data Counted : Type 0 where
  Variables : Counted
  Holes : Counted
  AllRules : Counted

-- A position is that of a symbol of the text, or its end where there are no symbols. A fault of a rule has the rule's number; an unknown callout has its name and the
-- position of the rule's first symbol.
pub data Fault : Type 0 where
  SyntaxAt : ℕ → Fault
  TooMany : Counted → ℕ → Fault
  Twice : ℕ → ℕ → Fault
  UnknownCallout : ℕ → ℕ → Fault
  TwoVariables : ℕ → Fault
  BadSplit : ℕ → Fault
  BadSource : ℕ → Fault
  VariableMissing : ℕ → Fault
  BadFormat : ℕ → Fault

abbrev pub or_else : Option Fault → Option Fault → Option Fault
or_else None later = later
or_else (Some fault) later = Some fault

abbrev pub too_many : Counted → Option ℕ → Option Fault
too_many which None = None
too_many which (Some position) = Some (TooMany which position)

abbrev pub twice : Option Declared → Option Fault
twice None = None
twice (Some d) = Some (Twice d.0 d.1)

abbrev pub unknown_at : ℕ → List ℕ → Option Fault
unknown_at position [] = None
unknown_at position (name ∷ names) = Some (UnknownCallout name position)

-- the first fault of a rule
abbrev pub fault_of_rule : Spelling → List DeclaredHole → PlacedRule → Option Fault
fault_of_rule spelling holes r =
    or_else (unknown_at r.position (unknown_callouts spelling r.rule)) (
    cond (names_two_variables (variables_among holes) r) (Some (TwoVariables r.number)) (
    cond (is_bad_split r.rule r.rule.destination) (Some (BadSplit r.number)) (
    cond (is_bad_source spelling (variables_among holes) r) (Some (BadSource r.number)) (
    cond (lacks_variable (map (λ h. h.name) holes) r) (Some (VariableMissing r.number)) (
    cond (is_bad_format spelling r.rule.action) (Some (BadFormat r.number)) None)))))

abbrev pub fault_of_rules : Spelling → List DeclaredHole → List PlacedRule → Option Fault
fault_of_rules spelling holes [] = None
fault_of_rules spelling holes (r ∷ rs) = or_else (fault_of_rule spelling holes r) (fault_of_rules spelling holes rs)

-- the first fault of a written text: too many variables, holes or rules, a name twice, and then the rules in their order
abbrev pub fault_of : Spelling → List Clause → Option Fault
fault_of spelling cs =
    or_else (too_many Variables (passing count_of_variables most_variables 0 0 cs)) (
    or_else (too_many Holes (passing count_of_holes most_holes 0 0 cs)) (
    or_else (too_many AllRules (passing count_of_rules most_rules 0 0 cs)) (
    or_else (twice (repeated [] (declared_names 0 cs))) (
    fault_of_rules spelling (holes_of spelling cs) (rules_of cs)))))
