-- A text without a fault keeps to the limits, and so does its machine.
use Rattle.std.proofs.Common.{◌≡◌, ℕ, ◌+◌, ◌≤◌, Bool, true, false, cond, not, is_some, nat_lt, List, [], ◌∷◌, ◌++◌, length, map, filter, Option, None, Some, ap, refl, ◌∙◌, sym, subst, arith}
use Rattle.metal_grammar.specs.Words.{Spelling}
use Rattle.metal_grammar.specs.Written.{Row, lone, row, members, StateName, WrittenRule, Content, Nothing, Declares, Rules, Clause}
use Rattle.metal_grammar.specs.Phrases.{state_phrase, rule_phrase}
use Rattle.metal_tree.specs.MetalMachines.Machine.{HoleType}
use Rattle.metal_tree.specs.MetalMachines.Limits.{most_variables, most_holes, most_rules, AreNumbered, IsLimited}
use Rattle.metal_grammar.specs.Holes.{DeclaredHole, hole_type, holes_as}
use Rattle.metal_grammar.specs.Rules.{size, behind_head, behind_clause, holes_of_content, holes_of, count_of_rules, PlacedRule, rules_from, rules_of_content, placed_rules, rules_of}
use Rattle.metal_grammar.specs.Faults.{count_of_holes, count_of_variables, passing}
use Rattle.metal_grammar.specs.FirstFault.{Counted, Variables, Holes, AllRules, Fault, or_else, too_many, fault_of}
use Rattle.metal_grammar.specs.Meaning.{in_order, Numbering, rule_of, numbering_of, machine_of}
use Rattle.metal_grammar.specs.Theorems.{MachinesAreLimited}

-- how many a text has in all
abbrev total : (Content → ℕ) → List Clause → ℕ
total count [] = 0
total count (c ∷ cs) = count c.content + total count cs

passed : {A : Type 0} (b : Bool) (x : A) (o : Option A) → cond b (Some x) o ≡ None → (b ≡ false) × (o ≡ None)
passed true x o h = cc
passed false x o h = (refl, h)

within : (limit n : ℕ) → nat_lt limit n ≡ false → n ≤ limit
within limit n h = grind (arith, h)

none_passes : (count : Content → ℕ) (limit before position : ℕ) (cs : List Clause) → before ≤ limit → passing count limit before position cs ≡ None → before + total count cs ≤ limit
none_passes count limit before position [] b h = omega arith
none_passes count limit before position (c ∷ cs) b h =
    let n = before + count c.content in
    let p = passed (nat_lt limit n) position _ h in
    let i = none_passes count limit n (behind_clause position c) cs (within limit n p.0) p.1 in
    omega arith

-- no fault is there if none of two is
pub neither_fault : (a b : Option Fault) → or_else a b ≡ None → (a ≡ None) × (b ≡ None)
neither_fault None b h = (refl, h)
neither_fault (Some fault) b h = cc

pub not_too_many : (which : Counted) (o : Option ℕ) → too_many which o ≡ None → o ≡ None
not_too_many which None h = refl
not_too_many which (Some position) h = cc

abbrev states_in : List DeclaredHole → List DeclaredHole
states_in holes = filter (λ h. h.is_state) holes

abbrev others_in : List DeclaredHole → List DeclaredHole
others_in holes = filter (λ h. not h.is_state) holes

append_length : {A : Type 0} (xs ys : List A) → length (xs ++ ys) ≡ length xs + length ys
append_length [] ys = omega arith
append_length (x ∷ xs) ys = let i = append_length xs ys in omega arith

map_length : {A B : Type 0} (f : A → B) (xs : List A) → length (map f xs) ≡ length xs
map_length f [] = refl
map_length f (x ∷ xs) = let i = map_length f xs in omega arith

filter_step : {A : Type 0} (b : Bool) (x : A) (xs ys : List A) → cond b (x ∷ (xs ++ ys)) (xs ++ ys) ≡ cond b (x ∷ xs) xs ++ ys
filter_step true x xs ys = refl
filter_step false x xs ys = refl

filter_append : {A : Type 0} (p : A → Bool) (xs ys : List A) → filter p (xs ++ ys) ≡ filter p xs ++ filter p ys
filter_append p [] ys = refl
filter_append p (x ∷ xs) ys = ap (λ z. cond (p x) (x ∷ z) z) (filter_append p xs ys) ∙ filter_step (p x) x (filter p xs) (filter p ys)

split_step : {A : Type 0} (b : Bool) (x : A) (xs ys : List A) → length (cond b (x ∷ xs) xs) + length (cond (not b) (x ∷ ys) ys) ≡ length xs + length ys + 1
split_step true x xs ys = omega arith
split_step false x xs ys = omega arith

-- the variables and the others are all holes
split_length : (holes : List DeclaredHole) → length (states_in holes) + length (others_in holes) ≡ length holes
split_length [] = refl
split_length (h ∷ hs) =
    let i = split_length hs in
    let s = split_step h.is_state h (states_in hs) (others_in hs) in
    omega (arith, i, s)

ordered_length : (holes : List DeclaredHole) → length (in_order holes) ≡ length holes
ordered_length holes = append_length (states_in holes) (others_in holes) ∙ split_length holes

no_states : (t : HoleType) (names : List ℕ) → states_in (holes_as false (Some t) names) ≡ []
no_states t [] = refl
no_states t (n ∷ ns) = no_states t ns

states_few : (is_state : Bool) (t : Option HoleType) (names : List ℕ) → length (states_in (holes_as is_state t names)) ≤ cond is_state (length names) 0
states_few is_state None names = omega arith
states_few true (Some t) [] = omega arith
states_few true (Some t) (n ∷ ns) = let i = states_few true (Some t) ns in omega arith
states_few false (Some t) names = let e = ap length (no_states t names) in omega arith

holes_few : (is_state : Bool) (t : Option HoleType) (names : List ℕ) → length (holes_as is_state t names) ≤ length names
holes_few is_state None names = omega arith
holes_few is_state (Some t) [] = omega arith
holes_few is_state (Some t) (n ∷ ns) = let i = holes_few is_state (Some t) ns in omega arith

content_states : (spelling : Spelling) (c : Content) → length (states_in (holes_of_content spelling c)) ≤ count_of_variables c
content_states spelling (Declares d) = states_few (is_some d.state) (hole_type spelling d.type) (members d.names)
content_states spelling _ = omega arith

content_holes : (spelling : Spelling) (c : Content) → length (holes_of_content spelling c) ≤ count_of_holes c
content_holes spelling (Declares d) = holes_few (is_some d.state) (hole_type spelling d.type) (members d.names)
content_holes spelling _ = omega arith

all_states : (spelling : Spelling) (cs : List Clause) → length (states_in (holes_of spelling cs)) ≤ total count_of_variables cs
all_states spelling [] = omega arith
all_states spelling (c ∷ cs) =
    let x = holes_of_content spelling c.content in
    let i = all_states spelling cs in
    let a = content_states spelling c.content in
    let e = ap length (filter_append (λ h. h.is_state) x (holes_of spelling cs)) ∙ append_length (states_in x) (states_in (holes_of spelling cs)) in
    omega (arith, i, a, e)

all_holes : (spelling : Spelling) (cs : List Clause) → length (holes_of spelling cs) ≤ total count_of_holes cs
all_holes spelling [] = omega arith
all_holes spelling (c ∷ cs) =
    let i = all_holes spelling cs in
    let a = content_holes spelling c.content in
    let e = append_length (holes_of_content spelling c.content) (holes_of spelling cs) in
    omega (arith, i, a, e)

from_length : (number position : ℕ) (source : StateName) (rs : Row WrittenRule) → length (rules_from number position source rs) ≡ length (members rs)
from_length number position source (lone r) = refl
from_length number position source (row r rs) = let i = from_length (number + 1) (position + size (rule_phrase r) + 1) source rs in omega arith

content_rules : (number position : ℕ) (c : Content) → length (rules_of_content number position c) ≡ count_of_rules c
content_rules number position (Rules s) = from_length number (position + size (state_phrase s.source) + 1) s.source s.rules
content_rules number position Nothing = refl
content_rules number position (Declares d) = refl

all_rules : (number position : ℕ) (cs : List Clause) → length (placed_rules number position cs) ≡ total count_of_rules cs
all_rules number position [] = refl
all_rules number position (c ∷ cs) =
    let x = rules_of_content number (behind_head position c) c.content in
    let y = placed_rules (number + count_of_rules c.content) (behind_clause position c) cs in
    let i = all_rules (number + count_of_rules c.content) (behind_clause position c) cs in
    let a = content_rules number (behind_head position c) c.content in
    let e = append_length x y in
    omega (arith, i, a, e)

-- the rules of a text have numbers one after the other
abbrev ArePlaced : ℕ → List PlacedRule → Type 0
ArePlaced number [] = Unit {0}
ArePlaced number (r ∷ rs) = (r.number ≡ number) × ArePlaced (number + 1) rs

placed_append : (number : ℕ) (xs ys : List PlacedRule) → ArePlaced number xs → ArePlaced (number + length xs) ys → ArePlaced number (xs ++ ys)
placed_append number [] ys a b = let e : number + 0 ≡ number = omega arith in subst (λ n. ArePlaced n ys) e b
placed_append number (x ∷ xs) ys a b =
    let e : number + length (x ∷ xs) ≡ (number + 1) + length xs = omega arith in
    (a.0, placed_append (number + 1) xs ys a.1 (subst (λ n. ArePlaced n ys) e b))

from_placed : (number position : ℕ) (source : StateName) (rs : Row WrittenRule) → ArePlaced number (rules_from number position source rs)
from_placed number position source (lone r) = (refl, tt)
from_placed number position source (row r rs) = (refl, from_placed (number + 1) (position + size (rule_phrase r) + 1) source rs)

content_placed : (number position : ℕ) (c : Content) → ArePlaced number (rules_of_content number position c)
content_placed number position (Rules s) = from_placed number (position + size (state_phrase s.source) + 1) s.source s.rules
content_placed number position Nothing = tt
content_placed number position (Declares d) = tt

all_placed : (number position : ℕ) (cs : List Clause) → ArePlaced number (placed_rules number position cs)
all_placed number position [] = tt
all_placed number position (c ∷ cs) =
    let x = rules_of_content number (behind_head position c) c.content in
    let y = placed_rules (number + count_of_rules c.content) (behind_clause position c) cs in
    let e = content_rules number (behind_head position c) c.content in
    placed_append number x y (content_placed number (behind_head position c) c.content)
    (subst (λ n. ArePlaced (number + n) y) (sym e) (all_placed (number + count_of_rules c.content) (behind_clause position c) cs))

numbered : (n : Numbering) (number : ℕ) (rs : List PlacedRule) → ArePlaced number rs → AreNumbered number (map (rule_of n) rs)
numbered n number [] w = tt
numbered n number (r ∷ rs) w = (w.0, numbered n (number + 1) rs w.1)

-- the machine of a text that has no fault
pub limited : (spelling : Spelling) (cs : List Clause) → fault_of spelling cs ≡ None → IsLimited (machine_of spelling cs)
limited spelling cs h =
    let a = neither_fault (too_many Variables (passing count_of_variables most_variables 0 0 cs)) _ h in
    let b = neither_fault (too_many Holes (passing count_of_holes most_holes 0 0 cs)) _ a.1 in
    let c = neither_fault (too_many AllRules (passing count_of_rules most_rules 0 0 cs)) _ b.1 in
    let variables = none_passes count_of_variables most_variables 0 0 cs (omega arith) (not_too_many Variables _ a.0) in
    let holes = none_passes count_of_holes most_holes 0 0 cs (omega arith) (not_too_many Holes _ b.0) in
    let rules = none_passes count_of_rules most_rules 0 0 cs (omega arith) (not_too_many AllRules _ c.0) in
    let m = machine_of spelling cs in
    let hs = holes_of spelling cs in
    let s = all_states spelling cs in
    let t = all_holes spelling cs in
    let u = all_rules 1 0 cs in
    let o : length m.holes ≡ length hs = map_length _ (in_order hs) ∙ ordered_length hs in
    let p = split_length hs in
    let r : length m.rules ≡ length (rules_of cs) = map_length _ (rules_of cs) in
    record {
      variables = omega (arith, variables, s);
      holes = omega (arith, holes, t, o);
      first = omega (arith, o, p);
      states = map_length _ (states_in hs);
      rules = omega (arith, rules, u, r);
      numbers = numbered (numbering_of spelling cs) 1 (rules_of cs) (all_placed 1 0 cs);
    }

pub machines_are_limited : MachinesAreLimited
machines_are_limited spelling ts m (cs, w, n, k, e) = subst IsLimited (sym e) (limited spelling cs n)
