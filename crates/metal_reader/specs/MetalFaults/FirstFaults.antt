-- What is due of faults that come before others.
use Rattle.std.specs.Prelude.{◌≡◌, ◌⊎◌, ℕ, cond, List, [], Option, None, Some, Result, Ok, Err}
use Rattle.metal_tree.specs.MetalMachines.Limits.{most_variables, most_holes, most_rules}
use Rattle.metal_grammar.specs.Words.{Spelling}
use Rattle.metal_grammar.specs.Written.{Clause}
use Rattle.metal_grammar.specs.Rules.{PlacedRule, declared_names, count_of_rules}
use Rattle.metal_grammar.specs.Faults.{count_of_variables, count_of_holes, passing, repeated, unknown_callouts, names_two_variables, is_bad_split, is_bad_source, lacks_variable, is_bad_format}
use Rattle.metal_grammar.specs.FirstFault.{Fault, Counted, Variables, Holes, AllRules, TwoVariables, BadSplit, BadSource, VariableMissing, BadFormat, or_else, too_many, twice, unknown_at}
use Rattle.metal_reader.specs.declared.metal_faults.fault.MetalFault.{MetalFault}
use Rattle.metal_reader.specs.declared.metal_faults.fault.MetalFault.TheVariants.{NoMemory}
use Rattle.metal_numbers.specs.declared.metal_declared.which.Which.{Which}
use Rattle.metal_numbers.specs.declared.metal_declared.which.Which.TheVariants as which
use Rattle.metal_reader.specs.MetalFaults.Faults.{fault_in}

abbrev pub what : Which → Counted
what which.Variables = Variables
what which.Holes = Holes
what which.Rules = AllRules

-- Where nothing is refused there is no fault; a refusal is the fault, or memory ran out.
abbrev pub Says : {A : Type 0} → ℕ → Result A MetalFault → Option Fault → Type 0
Says file (Ok u) found = found ≡ None
Says file (Err e) found = (e ≡ NoMemory) ⊎ ((fault : Fault) × (found ≡ Some fault) × (e ≡ fault_in file fault))

-- the faults of a text before those of its rules
abbrev pub faults_before_rules : List Clause → Option Fault
faults_before_rules cs =
    or_else (too_many Variables (passing count_of_variables most_variables 0 0 cs)) (
    or_else (too_many Holes (passing count_of_holes most_holes 0 0 cs)) (
    or_else (too_many AllRules (passing count_of_rules most_rules 0 0 cs)) (
    twice (repeated [] (declared_names 0 cs)))))

-- the first fault of a rule, where these are the names of the state variables, and of all holes
abbrev pub rule_fault : Spelling → List ℕ → List ℕ → PlacedRule → Option Fault
rule_fault spelling variables holes r =
    or_else (unknown_at r.position (unknown_callouts spelling r.rule)) (
    cond (names_two_variables variables r) (Some (TwoVariables r.number)) (
    cond (is_bad_split r.rule r.rule.destination) (Some (BadSplit r.number)) (
    cond (is_bad_source spelling variables r) (Some (BadSource r.number)) (
    cond (lacks_variable holes r) (Some (VariableMissing r.number)) (
    cond (is_bad_format spelling r.rule.action) (Some (BadFormat r.number)) None)))))
