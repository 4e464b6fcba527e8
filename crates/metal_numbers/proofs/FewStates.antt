-- How many states are mentioned, and that all their numbers fit.
use Rattle.std.proofs.Common.{◌≡◌, ℕ, zero, suc, ◌*◌, ◌<◌, ◌≤◌, Bool, true, false, cond, not, nat_eq, nat_le, ◌&&◌, List, [], ◌∷◌, ◌++◌, length, get_or, map, filter, filter_map, Option, None, Some, ap, refl, ◌∙◌, arith, length-append}
use Rattle.std.specs.List.{cons_option}
use Rattle.std.proofs.lemmas.Bool.Decides.{nat_tests}
use Rattle.std.proofs.lemmas.List.{length-map}
use Rattle.metal_tree.specs.MetalMachines.Limits.{most_holes, most_rules}
use Rattle.metal_grammar.specs.Words.{Spelling}
use Rattle.metal_grammar.specs.Written as text
use Rattle.metal_grammar.specs.Rules as rules
use Rattle.metal_grammar.specs.Rules.{targets_of}
use Rattle.metal_grammar.specs.Meaning.{distinct, global_name, name_for, globals_among, states_among, states_mentioned}
use Rattle.metal_tree.specs.declared.states.States.{States}
use Rattle.metal_written.specs.declared.placed.PlacedRule.{PlacedRule}
use Rattle.metal_written.specs.declared.written.StateName.{StateName}
use Rattle.metal_written.specs.Placed.{placed_view, placed_views}
use Rattle.metal_written.specs.Written.{state_view}
use Rattle.metal_numbers.specs.declared.numbers.Numbering.{Numbering}
use Rattle.metal_numbers.specs.Small.{are_few, is_small}

few-both : (a b : Bool) → (a && b) ≡ true → (a ≡ true) × (b ≡ true)
few-both true b h = (refl, h)
few-both false b h = cc

below : (a b : ℕ) → nat_le a b ≡ true → a ≤ b
below a b h = grind (arith, nat_tests)

few-at : (states : List States) (i : ℕ) (d : States) → are_few states ≡ true → i < length states → length (get_or states i d).names.now ≤ 3000
few-at [] i d h l = absurd (omega (arith, l))
few-at (s ∷ ss) zero d h l = below (length s.names.now) 3000 (few-both (nat_le (length s.names.now) 3000) (are_few ss) h).0
few-at (s ∷ ss) (suc i) d h l = few-at ss i d (few-both (nat_le (length s.names.now) 3000) (are_few ss) h).1 (omega (arith, l))

-- the numbers of states fit
few_states : (n : Numbering) (i : ℕ) (d : States) → i < length n.states.now → length (get_or n.states.now i d).names.now ≤ 3000
few_states n i d l =
    let holes = nat_le (length n.holes.now) 16 in
    let globals = nat_le (length n.globals.now) 3000 in
    let states = are_few n.states.now in
    few-at n.states.now i d (few-both (holes && globals) states n.small).1 l

pub state_fits : (n : Numbering) (i k : ℕ) (d : States) → i < length n.states.now → k ≤ length (get_or n.states.now i d).names.now → k ≤ 3000
state_fits n i k d l h = let few = few_states n i d l in omega (arith, few, h)

within : (a b : ℕ) → a ≤ b → nat_le a b ≡ true
within a b h = grind (arith, nat_tests)

all-few : (a b : Bool) → a ≡ true → b ≡ true → (a && b) ≡ true
all-few a b h k = ap (λ x. x && b) h ∙ k

-- one variable more
pub few_push : (ss : List States) (s : States) → are_few ss ≡ true → length s.names.now ≤ 3000 → are_few (ss ++ (s ∷ [])) ≡ true
few_push [] s h l = all-few (nat_le (length s.names.now) 3000) true (within (length s.names.now) 3000 l) refl
few_push (r ∷ rs) s h l =
    let both = few-both (nat_le (length r.names.now) 3000) (are_few rs) h in
    all-few (nat_le (length r.names.now) 3000) (are_few (rs ++ (s ∷ []))) both.0 (few_push rs s both.1 l)

few-step : (b : Bool) (x : ℕ) (xs ys : List ℕ) → length xs ≤ length ys → length (cond b (x ∷ xs) xs) ≤ suc (length ys)
few-step true x xs ys h = omega (arith, h)
few-step false x xs ys h = omega (arith, h)

filter-few : (p : ℕ → Bool) (xs : List ℕ) → length (filter p xs) ≤ length xs
filter-few p [] = omega arith
filter-few p (x ∷ xs) = few-step (p x) x (filter p xs) xs (filter-few p xs)

distinct-few : (xs : List ℕ) → length (distinct xs) ≤ length xs
distinct-few [] = omega arith
distinct-few (x ∷ xs) = let a = distinct-few xs in let b = filter-few (λ m. not (nat_eq m x)) (distinct xs) in omega (arith, a, b)

option-few : (o : Option ℕ) (xs : List ℕ) (n : ℕ) → length xs ≤ n → length (cons_option o xs) ≤ suc n
option-few None xs n h = omega (arith, h)
option-few (Some k) xs n h = omega (arith, h)

found-few : {A : Type 0} (f : A → Option ℕ) (xs : List A) → length (filter_map f xs) ≤ length xs
found-few f [] = omega arith
found-few f (x ∷ xs) = option-few (f x) (filter_map f xs) (length xs) (found-few f xs)

-- there are no more of them than of what they were found among
pub distinct_few : {A : Type 0} (f : A → Option ℕ) (xs : List A) → length (distinct (filter_map f xs)) ≤ length xs
distinct_few f xs = let a = distinct-few (filter_map f xs) in let b = found-few f xs in omega (arith, a, b)

pub states_few : (spelling : Spelling) (mentioned : List StateName) (variable : ℕ) → length mentioned ≤ 3000 → length (states_among spelling (map state_view mentioned) variable) ≤ 3000
states_few spelling mentioned variable h =
    let a = distinct_few (name_for spelling variable) (map state_view mentioned) in
    let b = length-map mentioned state_view in
    omega (arith, a, b, h)

pub globals_few : (spelling : Spelling) (mentioned : List StateName) → length mentioned ≤ 3000 → length (globals_among spelling (map state_view mentioned)) ≤ 3000
globals_few spelling mentioned h =
    let a = distinct_few (global_name spelling) (map state_view mentioned) in
    let b = length-map mentioned state_view in
    omega (arith, a, b, h)

pub ruleset fews = (few_push, states_few, globals_few)

-- a rule mentions three states at most
two-targets : (d : text.Destination) → length (targets_of d) ≤ 2
two-targets (text.To target) = omega arith
two-targets (text.Split true_word on_true false_word on_false) = omega arith

mentioned-few : (rs : List rules.PlacedRule) → length (states_mentioned rs) ≤ 3 * length rs
mentioned-few [] = omega arith
mentioned-few (r ∷ rs) =
    let a = two-targets r.rule.destination in
    let b = mentioned-few rs in
    let c = length-append (r.source ∷ targets_of r.rule.destination) (states_mentioned rs) in
    omega (arith, a, b, c)

pub mentioned_few : (mentioned : List StateName) (rs : List PlacedRule) → map state_view mentioned ≡ states_mentioned (placed_views rs) → length rs ≤ most_rules → length mentioned ≤ 3000
mentioned_few mentioned rs e h =
    let a = length-map mentioned state_view in
    let b : length (map state_view mentioned) ≡ length (states_mentioned (placed_views rs)) = ap length e in
    let c = mentioned-few (placed_views rs) in
    let d = length-map rs placed_view in
    omega (arith, a, b, c, d, h)

-- all numbers fit
pub small_made : (holes globals : List ℕ) (states : List States) → length holes ≤ most_holes → length globals ≤ 3000 → are_few states ≡ true → is_small holes globals states ≡ true
small_made holes globals states a b c =
    let h = nat_le (length holes) 16 in
    let g = nat_le (length globals) 3000 in
    all-few (h && g) (are_few states) (all-few h g (within (length holes) 16 a) (within (length globals) 3000 b)) c
