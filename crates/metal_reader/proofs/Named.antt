-- Where no rule has a fault, each state of a rule is one of the machine or of a state variable.
use Rattle.std.proofs.Common.{◌≡◌, ℕ, false, not, ◌||◌, ◌&&◌, List, [], ◌∷◌, None, ap, ◌∙◌}
use Rattle.metal_grammar.specs.Words.{Spelling}
use Rattle.metal_grammar.specs.Written.{Clause}
use Rattle.metal_grammar.specs.Holes.{DeclaredHole}
use Rattle.metal_grammar.specs.Rules.{PlacedRule, targets_of, variables_among, holes_of, rules_of}
use Rattle.metal_grammar.specs.Faults.{any_of, is_misnamed, is_stop, is_global, is_all_global, names_variable, unknown_callouts, names_two_variables, is_bad_split, is_bad_source}
use Rattle.metal_grammar.specs.FirstFault.{TwoVariables, BadSplit, BadSource, or_else, unknown_at, fault_of_rule, fault_of_rules, fault_of}
use Rattle.metal_grammar.proofs.Numbered.{either}
use Rattle.metal_numbers.specs.Numbers.{IsNamed, AreNamed}
use Rattle.metal_reader.specs.MetalFaults.FirstFaults.{faults_before_rules}
use Rattle.metal_grammar.proofs.Limited.{neither_fault}
use Rattle.metal_reader.proofs.Few.{passed, in_turn}

source_named : (spelling : Spelling) (variables : List ℕ) (r : PlacedRule) → is_bad_source spelling variables r ≡ false → IsNamed variables r
source_named spelling variables r h =
    let misnamed = any_of (is_misnamed variables) (r.source ∷ targets_of r.rule.destination) in
    let back = not (is_global r.source) && any_of is_global (targets_of r.rule.destination) in
    let about = is_all_global r && names_variable variables r.rule in
    let a = either (misnamed || is_stop spelling r.source || back) about h in
    let b = either (misnamed || is_stop spelling r.source) back a.0 in
    (either misnamed (is_stop spelling r.source) b.0).0

rule_named : (spelling : Spelling) (holes : List DeclaredHole) (r : PlacedRule) → fault_of_rule spelling holes r ≡ None → IsNamed (variables_among holes) r
rule_named spelling holes r h =
    let variables = variables_among holes in
    let a = neither_fault (unknown_at r.position (unknown_callouts spelling r.rule)) _ h in
    let b = passed (names_two_variables variables r) (TwoVariables r.number) _ a.1 in
    let c = passed (is_bad_split r.rule r.rule.destination) (BadSplit r.number) _ b.1 in
    let d = passed (is_bad_source spelling variables r) (BadSource r.number) _ c.1 in
    source_named spelling variables r d.0

pub rules_named : (spelling : Spelling) (holes : List DeclaredHole) (rs : List PlacedRule) → fault_of_rules spelling holes rs ≡ None → AreNamed (variables_among holes) rs
rules_named spelling holes [] h = tt
rules_named spelling holes (r ∷ rs) h =
    let a = neither_fault (fault_of_rule spelling holes r) (fault_of_rules spelling holes rs) h in
    (rule_named spelling holes r a.0, rules_named spelling holes rs a.1)

-- no fault before the rules, and none of theirs
pub no_fault : (spelling : Spelling) (cs : List Clause) → faults_before_rules cs ≡ None → fault_of_rules spelling (holes_of spelling cs) (rules_of cs) ≡ None → fault_of spelling cs ≡ None
no_fault spelling cs h k = in_turn spelling cs ∙ ap (λ o. or_else o (fault_of_rules spelling (holes_of spelling cs) (rules_of cs))) h ∙ k
