-- Where nothing passes its limit, there are few holes and few rules.
use Rattle.std.proofs.Common.{◌≡◌, ℕ, suc, ◌+◌, ◌≤◌, Bool, true, false, cond, nat_lt, List, [], ◌∷◌, ◌++◌, length, map, Option, None, Some, ap, refl, arith}
use Rattle.std.proofs.lemmas.Bool.Decides.{nat_tests}
use Rattle.metal_tree.specs.MetalMachines.Limits.{most_variables, most_holes, most_rules}
use Rattle.metal_tree.specs.MetalMachines.Machine.{HoleType}
use Rattle.metal_grammar.specs.Words.{Spelling}
use Rattle.metal_grammar.specs.Written.{members, Content, Nothing, Declares, Rules, Clause}
use Rattle.metal_grammar.specs.Holes.{DeclaredHole, hole_type, holes_as}
use Rattle.metal_grammar.specs.Rules.{behind_clause, behind_head, holes_of_content, holes_of, rules_of_content, count_of_rules, placed_rules, rules_of}
use Rattle.metal_grammar.specs.Faults.{passing, count_of_holes, count_of_variables}
use Rattle.metal_grammar.specs.FirstFault.{Fault, Variables, Holes, AllRules, or_else, too_many, fault_of, fault_of_rules}
use Rattle.metal_grammar.proofs.Limited.{neither_fault, not_too_many}
use Rattle.metal_reader.proofs.MetalPositions.Counting.{content_count}
use Rattle.metal_reader.specs.MetalFaults.FirstFaults.{faults_before_rules}

pub lengths : {A B : Type 0} (f : A → B) (xs : List A) → length (map f xs) ≡ length xs
lengths f [] = refl
lengths f (x ∷ xs) = ap suc (lengths f xs)

joined-length : {A : Type 0} (xs ys : List A) → length (xs ++ ys) ≡ length xs + length ys
joined-length [] ys = omega arith
joined-length (x ∷ xs) ys = let h = joined-length xs ys in omega (arith, h)

within : (limit n : ℕ) → nat_lt limit n ≡ false → n ≤ limit
within limit n h = grind (arith, nat_tests)

pub passed : {A : Type 0} (b : Bool) (x : A) (o : Option A) → cond b (Some x) o ≡ None → (b ≡ false) × (o ≡ None)
passed true x o h = cc
passed false x o h = (refl, h)

named-holes : (is_state : Bool) (t : Option HoleType) (names : List ℕ) → length (holes_as is_state t names) ≤ length names
named-holes is_state None names = omega arith
named-holes is_state (Some t) names =
    let hole : ℕ → DeclaredHole = λ name. record { name = name; of = t; is_state = is_state } in
    let h = lengths hole names in
    omega (arith, h)

content-holes : (spelling : Spelling) (c : Content) → length (holes_of_content spelling c) ≤ count_of_holes c
content-holes spelling Nothing = omega arith
content-holes spelling (Declares d) = named-holes _ (hole_type spelling d.type) (members d.names)
content-holes spelling (Rules s) = omega arith

holes-few : (spelling : Spelling) (limit before position : ℕ) (cs : List Clause) → passing count_of_holes limit before position cs ≡ None → before ≤ limit → before + length (holes_of spelling cs) ≤ limit
holes-few spelling limit before position [] h l = omega (arith, l)
holes-few spelling limit before position (c ∷ cs) h l =
    let n = before + count_of_holes c.content in
    let p = passed (nat_lt limit n) position (passing count_of_holes limit n (behind_clause position c) cs) h in
    let i = holes-few spelling limit n (behind_clause position c) cs p.1 (within limit n p.0) in
    let j = joined-length (holes_of_content spelling c.content) (holes_of spelling cs) in
    let k = content-holes spelling c.content in
    omega (arith, i, j, k)

rules-few : (limit before at number position : ℕ) (cs : List Clause) → passing count_of_rules limit before at cs ≡ None → before ≤ limit → before + length (placed_rules number position cs) ≤ limit
rules-few limit before at number position [] h l = omega (arith, l)
rules-few limit before at number position (c ∷ cs) h l =
    let n = before + count_of_rules c.content in
    let p = passed (nat_lt limit n) at (passing count_of_rules limit n (behind_clause at c) cs) h in
    let i = rules-few limit n (behind_clause at c) (number + count_of_rules c.content) (behind_clause position c) cs p.1 (within limit n p.0) in
    let j = joined-length (rules_of_content number (behind_head position c) c.content) (placed_rules (number + count_of_rules c.content) (behind_clause position c) cs) in
    let k = content_count number (behind_head position c) c.content in
    omega (arith, i, j, k)

pub few_holes : (spelling : Spelling) (cs : List Clause) → faults_before_rules cs ≡ None → length (holes_of spelling cs) ≤ most_holes
few_holes spelling cs h =
    let a = neither_fault (too_many Variables (passing count_of_variables most_variables 0 0 cs)) _ h in
    let b = neither_fault (too_many Holes (passing count_of_holes most_holes 0 0 cs)) _ a.1 in
    let f = holes-few spelling most_holes 0 0 cs (not_too_many Holes _ b.0) (omega arith) in
    omega (arith, f)

pub few_rules : (cs : List Clause) → faults_before_rules cs ≡ None → length (rules_of cs) ≤ most_rules
few_rules cs h =
    let a = neither_fault (too_many Variables (passing count_of_variables most_variables 0 0 cs)) _ h in
    let b = neither_fault (too_many Holes (passing count_of_holes most_holes 0 0 cs)) _ a.1 in
    let c = neither_fault (too_many AllRules (passing count_of_rules most_rules 0 0 cs)) _ b.1 in
    let f = rules-few most_rules 0 0 1 0 cs (not_too_many AllRules _ c.0) (omega arith) in
    omega (arith, f)

-- the faults before the rules, and then those of the rules
pub in_turn : (spelling : Spelling) (cs : List Clause) → fault_of spelling cs ≡ or_else (faults_before_rules cs) (fault_of_rules spelling (holes_of spelling cs) (rules_of cs))
in_turn spelling cs =
    by (too_many Variables (passing count_of_variables most_variables 0 0 cs)) (too_many Holes (passing count_of_holes most_holes 0 0 cs)) (too_many AllRules (passing count_of_rules most_rules 0 0 cs)) _ _
  where
    by : (a b c d e : Option Fault) → or_else a (or_else b (or_else c (or_else d e))) ≡ or_else (or_else a (or_else b (or_else c d))) e
    by None None None d e = refl
    by None None (Some c) d e = refl
    by None (Some b) c d e = refl
    by (Some a) b c d e = refl
