-- A machine without a fault keeps its numbers in range, and each of its rules is sound.
use Rattle.std.proofs.Common.{◌≡◌, ◌⊎◌, inl, inr, ℕ, zero, suc, ◌+◌, ◌<◌, Bool, true, false, cond, not, nat_eq, nat_lt, ◌||◌, ◌&&◌, is_some, List, [], ◌∷◌, ◌++◌, length, get_or, map, filter, flat_map, unwrap_or, Option, None, Some, ap, refl, ◌∙◌, sym, subst, arith}
use Rattle.std.proofs.lemmas.Bool.Decides.{nat_tests}
use Rattle.std.proofs.lemmas.List.{append_assoc, map-append}
use Rattle.c_tree.specs.Symbol.{Symbol}
use Rattle.metal_tree.specs.MetalMachines.Machine.{Hole, Rule}
use Rattle.metal_tree.specs.MetalMachines.Kept as kept
use Rattle.metal_tree.specs.MetalMachines.Kept.{all_of, any_of, are_one, targets, bound_in, asked_in, named_in, variable_of_target, is_variable, is_split_well, goes_from, binds, named_by, named_outside_states, IsKeptBy, AreKept, IsKept}
use Rattle.metal_tree.specs.MetalMachines.Limits.{most_variables, most_holes, most_rules}
use Rattle.metal_grammar.specs.Words.{Spelling}
use Rattle.metal_grammar.specs.Written.{Row, lone, row, members, StateName, OfMachine, OfVariable, WrittenItem, Pattern, Callout, Dollars, Destination, To, Split, WrittenAction, Alternative, WrittenRule, Content, Nothing, Declares, Rules, Clause}
use Rattle.metal_grammar.specs.Phrases.{state_phrase, rule_phrase}
use Rattle.metal_grammar.specs.Grammar.{Before, nothing_before, behind_content, some, each, is_item, is_pattern, is_end, is_alternative, is_rule, is_destination, is_action, is_content, AreClauses}
use Rattle.metal_grammar.specs.Clauses.{clauses_of}
use Rattle.metal_grammar.specs.Holes.{DeclaredHole, Operand, are_placed}
use Rattle.metal_grammar.specs.Patterns.{has_plain_types}
use Rattle.metal_grammar.specs.Meaning.{number_in, is_start, globals_among, states_among, Numbering, global_number, source_of, target_of, dest_of, item_of, action_of, rule_of, in_order, hole_of, states_mentioned, machine_name}
use Rattle.metal_grammar.specs.Rules.{is_among, size, behind_head, behind_clause, holes_of, declared_names, variables_among, targets_of, variable_of, pattern_names, callout_names, all_pattern_names, all_callout_names, action_names_of, variables_of_states, has_end, PlacedRule, rules_from, rules_of_content, count_of_rules, placed_rules, rules_of}
use Rattle.metal_grammar.specs.Faults.{count_of_holes, count_of_variables, passing, repeated, is_stop, is_misnamed, is_global, unknown_callout_of, unknown_callouts, differ, names_two_variables, are_alike, some_end, is_bad_split, is_all_global, names_variable, is_bad_source, is_excused, is_bound, lacks, lacks_variable, is_bad_format}
use Rattle.metal_grammar.specs.FirstFault.{Fault, Variables, Holes, AllRules, too_many, twice, unknown_at, TwoVariables, BadSplit, BadSource, VariableMissing, BadFormat, fault_of_rule, fault_of_rules}
use Rattle.metal_grammar.specs.Theorems.{TextsAreKept, MachinesAreKept}
use Rattle.metal_grammar.proofs.HolesNumbered.{both}
use Rattle.metal_grammar.proofs.Numbered.{equal, same, either, right, stands, in_front, Within, numbers_below, front_numbers, one_number, among_numbers, not_among_numbers}
use Rattle.metal_grammar.proofs.StatesNumbered.{OneOf, of_rule}
use Rattle.metal_grammar.proofs.RulesNumbered.{is_sound, source_variables, target_variables, dest_variables, filter-append, held, items_bound, items_asked, neither}
use Rattle.metal_grammar.proofs.RulesKept.{flipped, flipped_true, left, joined, choice, all-append, all-split, all-weaker, any-append, some_members, each_members, among-left, within_held, among_held, front_held, any_held, some_numbers, numbering_for, machine_for, AreStates, source_in, dest_in, variables_within, alternatives_bound, alternatives_asked, maybe_named, same_end, ends, target_global, some_targets, all_targets}
use Rattle.metal_grammar.proofs.Limited.{limited, neither_fault}

-- a rule without a fault
pub record IsFree (spelling : Spelling) (vs hn : List ℕ) (r : PlacedRule) : Type 0 where
  pub unknown : unknown_callouts spelling r.rule ≡ []
  pub two : names_two_variables vs r ≡ false
  pub split : is_bad_split r.rule r.rule.destination ≡ false
  pub source : is_bad_source spelling vs r ≡ false
  pub missing : lacks_variable hn r ≡ false
  pub format : is_bad_format spelling r.rule.action ≡ false

none_unknown : (position : ℕ) (names : List ℕ) → unknown_at position names ≡ None → names ≡ []
none_unknown position [] h = refl
none_unknown position (n ∷ ns) h = cc

passed : (b : Bool) (x : Fault) (o : Option Fault) → cond b (Some x) o ≡ None → (b ≡ false) × (o ≡ None)
passed true x o h = cc
passed false x o h = (refl, h)

free : (spelling : Spelling) (hs : List DeclaredHole) (r : PlacedRule) → fault_of_rule spelling hs r ≡ None → IsFree spelling (variables_among hs) (map (λ h. h.name) hs) r
free spelling hs r h =
    let a = neither_fault (unknown_at r.position (unknown_callouts spelling r.rule)) _ h in
    let b = passed (names_two_variables (variables_among hs) r) (TwoVariables r.number) _ a.1 in
    let c = passed (is_bad_split r.rule r.rule.destination) (BadSplit r.number) _ b.1 in
    let d = passed (is_bad_source spelling (variables_among hs) r) (BadSource r.number) _ c.1 in
    let e = passed (lacks_variable (map (λ h. h.name) hs) r) (VariableMissing r.number) _ d.1 in
    let f = passed (is_bad_format spelling r.rule.action) (BadFormat r.number) None e.1 in
    record { unknown = none_unknown r.position _ a.0; two = b.0; split = c.0; source = d.0; missing = e.0; format = f.0 }

unflipped : (b : Bool) → not b ≡ true → b ≡ false
unflipped true h = cc
unflipped false h = refl

one_among : (is : ℕ → Bool) (xs : List ℕ) (n : ℕ) → all_of is xs ≡ true → is_among xs n ≡ true → is n ≡ true
one_among is [] n h w = cc
one_among is (x ∷ xs) n h w = by (nat_eq x n) refl (one_among is xs n (both (is x) (all_of is xs) h).1) w
  where
    by : (b : Bool) → nat_eq x n ≡ b → (is_among xs n ≡ true → is n ≡ true) → (b || is_among xs n) ≡ true → is n ≡ true
    by true e f v = sym (ap is (equal x n e)) ∙ (both (is x) (all_of is xs) h).0
    by false e f v = f v

-- each name that an alternative has to bind is a hole
needed_within : (vs ws hn : List ℕ) (source : StateName) (items : Alternative) → ((x : ℕ) → is_among hn x ≡ true → is_among (vs ++ ws) x ≡ true) → all_of (is_among vs) (variable_of source) ≡ true
    → (xs : List ℕ) → any_of (λ name. not (is_bound hn items name || is_excused source items name)) xs ≡ false → Within (vs ++ ws) xs
needed_within vs ws hn source items w v [] h = refl
needed_within vs ws hn source items w v (x ∷ xs) h =
    let b = either (not (is_bound hn items x || is_excused source items x)) (any_of (λ name. not (is_bound hn items name || is_excused source items name)) xs) h in
    joined (is_among (vs ++ ws) x) _ (by (choice (is_bound hn items x) (is_excused source items x) (flipped _ b.0))) (needed_within vs ws hn source items w v xs b.1)
  where
    by : ((is_bound hn items x ≡ true) ⊎ (is_excused source items x ≡ true)) → is_among (vs ++ ws) x ≡ true
    by (inl e) = w x (both (is_among hn x) (is_among (pattern_names items) x) e).0
    by (inr e) =
        let c = both (has_end items && is_among (variable_of source) x) (not (is_among (callout_names items) x)) e in
        let d = both (has_end items) (is_among (variable_of source) x) c.0 in
        among-left vs ws x (one_among (is_among vs) (variable_of source) x v d.1)

abbrev head : {A : Type 0} → Row A → A
head (lone x) = x
head (row x xs) = x

no_head : {A : Type 0} (is : A → Bool) (xs : Row A) → some is xs ≡ false → is (head xs) ≡ false
no_head is (lone x) h = h
no_head is (row x xs) h = (either (is x) (some is xs) h).0

-- an alternative binds the numbers of the names that it has to bind
names_bound : (spelling : Spelling) (vs ws hn : List ℕ) (states : List StateName) (r : PlacedRule) (items : Alternative) → all_of (is_sound spelling) (members items) ≡ true
    → flat_map (unknown_callout_of spelling) (members items) ≡ [] → Within (vs ++ ws) (callout_names items) → (xs : List ℕ) → Within (vs ++ ws) xs
    → any_of (λ name. not (is_bound hn items name || is_excused r.source items name)) xs ≡ false
    → all_of (binds (rule_of (numbering_for spelling vs ws states) r) (map (item_of (numbering_for spelling vs ws states)) (members items))) (map (number_in (vs ++ ws)) xs) ≡ true
names_bound spelling vs ws hn states r items s u c [] w h = refl
names_bound spelling vs ws hn states r items s u c (x ∷ xs) w h =
    let b = either (not (is_bound hn items x || is_excused r.source items x)) (any_of (λ name. not (is_bound hn items name || is_excused r.source items name)) xs) h in
    let v = both (is_among (vs ++ ws) x) (all_of (is_among (vs ++ ws)) xs) w in
    joined _ _ (by v.0 (choice (is_bound hn items x) (is_excused r.source items x) (flipped _ b.0))) (names_bound spelling vs ws hn states r items s u c xs v.1 b.1)
  where
    n : Numbering
    n = numbering_for spelling vs ws states

    by : is_among (vs ++ ws) x ≡ true → ((is_bound hn items x ≡ true) ⊎ (is_excused r.source items x ≡ true))
        → binds (rule_of (numbering_for spelling vs ws states) r) (map (item_of (numbering_for spelling vs ws states)) (members items)) (number_in (vs ++ ws) x) ≡ true
    by g (inl e) =
        let a = both (is_among hn x) (is_among (pattern_names items) x) e in
        left _ _ (ap (λ l. kept.is_among l (number_in (vs ++ ws) x)) (items_bound (numbering_for spelling vs ws states) (members items) s) ∙ among_numbers (vs ++ ws) (held (vs ++ ws) (pattern_names items)) x (among_held (vs ++ ws) (pattern_names items) x g a.1))
    by g (inr e) =
        let a = both (has_end items && is_among (variable_of r.source) x) (not (is_among (callout_names items) x)) e in
        let d = both (has_end items) (is_among (variable_of r.source) x) a.0 in
        right _ _ (joined _ _
        (joined _ _ (same_end (numbering_for spelling vs ws states) items ∙ d.0)
        (ap (λ l. kept.is_among l (number_in (vs ++ ws) x)) (source_variables (numbering_for spelling vs ws states) r.source) ∙ among_numbers (vs ++ ws) (variable_of r.source) x d.1))
        (flipped_true _ (ap (λ l. kept.is_among l (number_in (vs ++ ws) x)) (items_asked (numbering_for spelling vs ws states) (members items) s u) ∙ not_among_numbers (vs ++ ws) (callout_names items) x c g (unflipped _ a.1))))

all_bound : (spelling : Spelling) (vs ws hn : List ℕ) (states : List StateName) (r : PlacedRule) (xs : List ℕ) → Within (vs ++ ws) xs → (os : List Alternative)
    → all_of (λ items. all_of (is_sound spelling) (members items)) os ≡ true → flat_map (λ items. flat_map (unknown_callout_of spelling) (members items)) os ≡ []
    → Within (vs ++ ws) (flat_map callout_names os) → any_of (lacks hn r.source xs) os ≡ false
    → all_of (λ items. all_of (binds (rule_of (numbering_for spelling vs ws states) r) items) (map (number_in (vs ++ ws)) xs)) (map (λ items. map (item_of (numbering_for spelling vs ws states)) (members items)) os) ≡ true
all_bound spelling vs ws hn states r xs w [] s u c h = refl
all_bound spelling vs ws hn states r xs w (o ∷ os) s u c h =
    let a = both (all_of (is_sound spelling) (members o)) (all_of (λ items. all_of (is_sound spelling) (members items)) os) s in
    let v = neither (flat_map (unknown_callout_of spelling) (members o)) (flat_map (λ items. flat_map (unknown_callout_of spelling) (members items)) os) u in
    let d = all-split (is_among (vs ++ ws)) (callout_names o) (flat_map callout_names os) c in
    let b = either (lacks hn r.source xs o) (any_of (lacks hn r.source xs) os) h in
    joined _ _ (names_bound spelling vs ws hn states r o a.0 v.0 d.0 xs w b.0) (all_bound spelling vs ws hn states r xs w os a.1 v.1 d.1 b.1)

-- both targets of a split
alike : (n : Numbering) (t u : StateName) → are_alike t u ≡ true
    → ((kept.is_global (target_of n t) && kept.is_global (target_of n u))
    || (not (kept.is_global (target_of n t)) && not (kept.is_global (target_of n u)) && are_one (variable_of_target (target_of n t) ++ variable_of_target (target_of n u)))) ≡ true
alike n (OfMachine a) (OfMachine b) h = refl
alike n (OfMachine a) (OfVariable w b) h = cc
alike n (OfVariable v a) (OfMachine b) h = cc
alike n (OfVariable v a) (OfVariable w b) h =
    right _ _ (joined _ _
    (joined _ _ (flipped_true _ (target_global n (OfVariable v a))) (flipped_true _ (target_global n (OfVariable w b))))
    (ap (λ l. are_one (l ++ variable_of_target (target_of n (OfVariable w b)))) (target_variables n (OfVariable v a))
    ∙ ap (λ l. are_one ((number_in n.holes v ∷ []) ++ l)) (target_variables n (OfVariable w b))
    ∙ joined _ true (same (number_in n.holes v) (number_in n.holes w) (ap (number_in n.holes) (equal v w h))) refl))

no_action : (n : Numbering) (a : Option WrittenAction) → is_some a ≡ false → is_some (action_of n a) ≡ false
no_action n None h = refl
no_action n (Some a) h = cc

split_well : (n : Numbering) (r : PlacedRule) (d : Destination) → is_bad_split r.rule d ≡ false → is_split_well (rule_of n r) (dest_of n d) ≡ true
split_well n r (To t) h = refl
split_well n r (Split x t y u) h =
    let a = either (is_some r.rule.action || some_end r.rule) (not (are_alike t u)) h in
    let b = either (is_some r.rule.action) (some_end r.rule) a.0 in
    joined _ _
    (joined _ _ (flipped_true _ (no_action n r.rule.action b.0)) (flipped_true _ (ends n (members r.rule.alternatives) ∙ sym (some_members has_end r.rule.alternatives) ∙ b.1)))
    (alike n t u (flipped _ a.1))

not_one : (k : ℕ) → nat_eq (k + 2) 1 ≡ false
not_one k = grind (arith, nat_tests)

not_stop : (n : Numbering) (name : ℕ) → is_stop n.spelling (OfMachine name) ≡ false → nat_eq (global_number n name) 1 ≡ false
not_stop n name h = by (is_start n.spelling name) (is_stop n.spelling (OfMachine name)) h
  where
    by : (a b : Bool) → b ≡ false → nat_eq (cond a 0 (cond b 1 (number_in (globals_among n.spelling n.states) name + 2))) 1 ≡ false
    by true b e = refl
    by false true e = cc
    by false false e = not_one (number_in (globals_among n.spelling n.states) name)

-- what the rules keep to, by what they name
pub record IsNamed (spelling : Spelling) (vs ws : List ℕ) (states : List StateName) (r : PlacedRule) : Type 0 where
  pub within : Within (vs ++ ws) (variables_of_states r ++ all_callout_names r.rule ++ action_names_of r.rule.action)
  pub variables : kept.variables_of_states (rule_of (numbering_for spelling vs ws states) r) ≡ map (number_in (vs ++ ws)) (variables_of_states r)
  pub bound : flat_map bound_in (rule_of (numbering_for spelling vs ws states) r).alternatives ≡ map (number_in (vs ++ ws)) (held (vs ++ ws) (all_pattern_names r.rule))
  pub asked : flat_map asked_in (rule_of (numbering_for spelling vs ws states) r).alternatives ≡ map (number_in (vs ++ ws)) (all_callout_names r.rule)
  pub told : named_in (rule_of (numbering_for spelling vs ws states) r).action ≡ map (number_in (vs ++ ws)) (action_names_of r.rule.action)

-- the names outside states, without those in patterns that are no holes
abbrev pub outside : List ℕ → PlacedRule → List ℕ
outside ns r = held ns (all_pattern_names r.rule) ++ all_callout_names r.rule ++ action_names_of r.rule.action

three : (f : ℕ → ℕ) (xs ys zs us vs ws : List ℕ) → us ≡ map f xs → vs ≡ map f ys → ws ≡ map f zs → (us ++ vs ++ ws) ≡ map f (xs ++ ys ++ zs)
three f xs ys zs us vs ws p q r =
    ap (λ l. l ++ vs ++ ws) p ∙ ap (λ l. map f xs ++ l ++ ws) q ∙ ap (λ l. map f xs ++ map f ys ++ l) r
    ∙ ap (λ l. l ++ map f zs) (sym (map-append f xs ys)) ∙ sym (map-append f (xs ++ ys) zs)

two : (f : ℕ → ℕ) (xs ys us vs : List ℕ) → us ≡ map f xs → vs ≡ map f ys → (us ++ vs) ≡ map f (xs ++ ys)
two f xs ys us vs p q = ap (λ l. l ++ vs) p ∙ ap (λ l. map f xs ++ l) q ∙ sym (map-append f xs ys)

named : (spelling : Spelling) (vs ws hn : List ℕ) (states : List StateName) (r : PlacedRule) → ((x : ℕ) → is_among hn x ≡ true → is_among (vs ++ ws) x ≡ true)
    → all_of (λ items. all_of (is_sound spelling) (members items)) (members r.rule.alternatives) ≡ true → all_of (is_among vs) (variables_of_states r) ≡ true → IsFree spelling vs hn r
    → IsNamed spelling vs ws states r
named spelling vs ws hn states r w s v f =
    let n = numbering_for spelling vs ws states in
    record {
      within =
          needed_within vs ws hn r.source (head r.rule.alternatives) w (all-split (is_among vs) (variable_of r.source) (flat_map variable_of (targets_of r.rule.destination)) v).0
          (variables_of_states r ++ all_callout_names r.rule ++ action_names_of r.rule.action)
          (no_head (lacks hn r.source (variables_of_states r ++ all_callout_names r.rule ++ action_names_of r.rule.action)) r.rule.alternatives f.missing);
      variables = two (number_in (vs ++ ws)) (variable_of r.source) (flat_map variable_of (targets_of r.rule.destination)) _ _ (source_variables n r.source) (dest_variables n r.rule.destination);
      bound = alternatives_bound n (members r.rule.alternatives) s;
      asked = alternatives_asked n (members r.rule.alternatives) s f.unknown;
      told = maybe_named n r.rule.action f.format;
    }

-- what is filtered by the variables is the same
filtered : (vs ws xs ps ys zs : List ℕ) → filter (is_among vs) (xs ++ (held (vs ++ ws) ps ++ ys ++ zs)) ≡ filter (is_among vs) (xs ++ ps ++ ys ++ zs)
filtered vs ws xs ps ys zs =
    let F = filter (is_among vs) in
    let A = filter-append (is_among vs) in
    let a : F (xs ++ (held (vs ++ ws) ps ++ ys ++ zs)) ≡ F xs ++ (F ps ++ F ys ++ F zs) =
    A xs (held (vs ++ ws) ps ++ ys ++ zs) ∙ ap (λ l. F xs ++ l) (A (held (vs ++ ws) ps ++ ys) zs ∙ ap (λ l. l ++ F zs) (A (held (vs ++ ws) ps) ys ∙ ap (λ l. l ++ F ys) (front_held vs ws ps))) in
    let b : F (xs ++ ps ++ ys ++ zs) ≡ F xs ++ F ps ++ F ys ++ F zs =
    A (xs ++ ps ++ ys) zs ∙ ap (λ l. l ++ F zs) (A (xs ++ ps) ys ∙ ap (λ l. l ++ F ys) (A xs ps)) in
    let c : F xs ++ (F ps ++ F ys ++ F zs) ≡ F xs ++ F ps ++ F ys ++ F zs = simp (append_assoc) in
    a ∙ c ∙ sym b

any_outside : (vs ws ps ys zs : List ℕ) → any_of (is_among vs) (held (vs ++ ws) ps ++ ys ++ zs) ≡ any_of (is_among vs) (ps ++ ys ++ zs)
any_outside vs ws ps ys zs =
    let A = any-append (is_among vs) in
    A (held (vs ++ ws) ps ++ ys) zs
    ∙ ap (λ b. b || any_of (is_among vs) zs) (A (held (vs ++ ws) ps) ys ∙ ap (λ b. b || any_of (is_among vs) ys) (any_held vs ws ps) ∙ sym (A ps ys))
    ∙ sym (A (ps ++ ys) zs)

goes : (spelling : Spelling) (vs ws : List ℕ) (states : List StateName) (name : ℕ) (holes : List Hole) (lists : List (List ℕ)) (rules : List Rule) (r : PlacedRule) (s : StateName)
    → named_outside_states (rule_of (numbering_for spelling vs ws states) r) ≡ map (number_in (vs ++ ws)) (outside (vs ++ ws) r) → Within (vs ++ ws) (outside (vs ++ ws) r)
    → is_stop spelling s ≡ false → (not (is_global s) && any_of is_global (targets_of r.rule.destination)) ≡ false
    → (is_global s && not (any_of (λ target. not (is_global target)) (targets_of r.rule.destination)) && names_variable vs r.rule) ≡ false
    → goes_from (machine_for (numbering_for spelling vs ws states) name (length vs) holes lists rules) (rule_of (numbering_for spelling vs ws states) r) (source_of (numbering_for spelling vs ws states) s) ≡ true
goes spelling vs ws states name holes lists rules r (OfMachine s) e w q c d =
    joined _ _ (flipped_true _ (not_stop (numbering_for spelling vs ws states) s q)) (by (any_of (λ target. not (is_global target)) (targets_of r.rule.destination)) refl d)
  where
    by : (b : Bool) → any_of (λ target. not (is_global target)) (targets_of r.rule.destination) ≡ b → (not b && names_variable vs r.rule) ≡ false
        → (any_of (λ t. not (kept.is_global t)) (targets (dest_of (numbering_for spelling vs ws states) r.rule.destination))
        || not (any_of (λ k. nat_lt k (length vs)) (named_outside_states (rule_of (numbering_for spelling vs ws states) r)))) ≡ true
    by true p h = left _ _ (some_targets (numbering_for spelling vs ws states) r.rule.destination ∙ p)
    by false p h =
        right _ _ (flipped_true _ (ap (any_of (λ k. nat_lt k (length vs))) e ∙ some_numbers vs ws (outside (vs ++ ws) r) w
        ∙ any_outside vs ws (all_pattern_names r.rule) (all_callout_names r.rule) (action_names_of r.rule.action) ∙ h))
goes spelling vs ws states name holes lists rules r (OfVariable v s) e w q c d = all_targets (numbering_for spelling vs ws states) r.rule.destination c

rule_kept : (spelling : Spelling) (vs ws hn : List ℕ) (states : List StateName) (name : ℕ) (holes : List Hole) (lists : List (List ℕ)) (rules : List Rule) (r : PlacedRule)
    → length holes ≡ length (vs ++ ws) → AreStates spelling vs ws states lists → ((x : ℕ) → is_among hn x ≡ true → is_among (vs ++ ws) x ≡ true)
    → all_of (λ items. all_of (is_sound spelling) (members items)) (members r.rule.alternatives) ≡ true
    → ((s : StateName) → OneOf s (r.source ∷ targets_of r.rule.destination) → OneOf s states) → IsFree spelling vs hn r
    → IsKeptBy (machine_for (numbering_for spelling vs ws states) name (length vs) holes lists rules) (rule_of (numbering_for spelling vs ws states) r)
rule_kept spelling vs ws hn states name holes lists rules r hl l w s m f =
    let n = numbering_for spelling vs ws states in
    let N = vs ++ ws in
    let F = number_in N in
    let d = r.rule.destination in
    let VS = variables_of_states r in
    let CN = all_callout_names r.rule in
    let AN = action_names_of r.rule.action in
    let PN = held N (all_pattern_names r.rule) in
    let misnamed = any_of (is_misnamed vs) (r.source ∷ targets_of d) in
    let back = not (is_global r.source) && any_of is_global (targets_of d) in
    let about = is_all_global r && names_variable vs r.rule in
    let a = either (misnamed || is_stop spelling r.source || back) about f.source in
    let b = either (misnamed || is_stop spelling r.source) back a.0 in
    let c = either misnamed (is_stop spelling r.source) b.0 in
    let g = either (is_misnamed vs r.source) (any_of (is_misnamed vs) (targets_of d)) c.0 in
    let i = named spelling vs ws hn states r w s (variables_within vs (r.source ∷ targets_of d) c.0) f in
    let x = all-split (is_among N) (VS ++ CN) AN i.within in
    let y = all-split (is_among N) VS CN x.0 in
    let within : Within N (outside N r) = all-append (is_among N) (PN ++ CN) AN (all-append (is_among N) PN CN (within_held N (all_pattern_names r.rule)) y.1) x.1 in
    let all_within : Within N (VS ++ outside N r) = all-append (is_among N) VS (outside N r) y.0 within in
    let outer : named_outside_states (rule_of n r) ≡ map F (outside N r) = three F PN CN AN _ _ _ i.bound i.asked i.told in
    let every : named_by (rule_of n r) ≡ map F (VS ++ outside N r) = two F VS (outside N r) _ _ i.variables outer in
    record {
      range =
          joined _ _
          (joined _ _ (source_in spelling vs ws states name holes lists rules l r.source g.0 c.1 (m r.source (inl refl))) (dest_in spelling vs ws states name holes lists rules l d g.1 (λ t o. m t (inr o))))
          (ap (λ k. all_of (λ hole. nat_lt hole k) (named_by (rule_of n r))) hl ∙ ap (all_of (λ hole. nat_lt hole (length N))) every ∙ numbers_below N (VS ++ outside N r) all_within);
      variable =
          ap (λ k. are_one (filter (λ hole. nat_lt hole (length vs)) k)) every
          ∙ ap are_one (front_numbers vs ws (VS ++ outside N r) all_within)
          ∙ one_number N (filter (is_among vs) (VS ++ outside N r)) (ap differ (filtered vs ws VS (all_pattern_names r.rule) CN AN) ∙ f.two);
      split = split_well n r d f.split;
      source = goes spelling vs ws states name holes lists rules r r.source outer within c.1 b.1 a.1;
      bound =
          ap (λ k. all_of (λ items. all_of (binds (rule_of n r) items) k) (rule_of n r).alternatives) (three F VS CN AN _ _ _ i.variables i.asked i.told)
          ∙ all_bound spelling vs ws hn states r (VS ++ CN ++ AN) i.within (members r.rule.alternatives) s f.unknown y.1 (sym (some_members (lacks hn r.source (VS ++ CN ++ AN)) r.rule.alternatives) ∙ f.missing);
    }

-- the rules of a text are of the language
item_sound : (spelling : Spelling) (hs : List DeclaredHole) (i : WrittenItem) → is_item spelling hs i ≡ true → is_sound spelling i ≡ true
item_sound spelling hs (Pattern e semicolon) h = (both (are_placed hs Operand e) (has_plain_types e) h).1
item_sound spelling hs (Callout negated callout) h = h
item_sound spelling hs (Dollars name) h = refl

alternative_sound : (spelling : Spelling) (hs : List DeclaredHole) (items : Alternative) → is_alternative spelling hs items ≡ true → all_of (is_sound spelling) (members items) ≡ true
alternative_sound spelling hs items h =
    all-weaker (is_item spelling hs) (is_sound spelling) (members items) (item_sound spelling hs)
    (sym (each_members (is_item spelling hs) items) ∙ (both (each (is_item spelling hs) items) (not (some is_pattern items && some is_end items)) h).0)

abbrev pub is_sound_rule : Spelling → PlacedRule → Bool
is_sound_rule spelling r = all_of (λ items. all_of (is_sound spelling) (members items)) (members r.rule.alternatives)

rule_sound : (spelling : Spelling) (hs : List DeclaredHole) (r : WrittenRule) → is_rule spelling hs r ≡ true → all_of (λ items. all_of (is_sound spelling) (members items)) (members r.alternatives) ≡ true
rule_sound spelling hs r h =
    let a = both (each (is_alternative spelling hs) r.alternatives && is_destination spelling r.destination) (is_action spelling r.action) h in
    let b = both (each (is_alternative spelling hs) r.alternatives) (is_destination spelling r.destination) a.0 in
    all-weaker (is_alternative spelling hs) (λ items. all_of (is_sound spelling) (members items)) (members r.alternatives) (alternative_sound spelling hs) (sym (each_members (is_alternative spelling hs) r.alternatives) ∙ b.0)

section_sound : (spelling : Spelling) (hs : List DeclaredHole) (number position : ℕ) (source : StateName) (rs : Row WrittenRule) → each (is_rule spelling hs) rs ≡ true
    → all_of (is_sound_rule spelling) (rules_from number position source rs) ≡ true
section_sound spelling hs number position source (lone r) h = joined _ true (rule_sound spelling hs r h) refl
section_sound spelling hs number position source (row r rs) h =
    let b = both (is_rule spelling hs r) (each (is_rule spelling hs) rs) h in
    joined _ _ (rule_sound spelling hs r b.0) (section_sound spelling hs (number + 1) (position + size (rule_phrase r) + 1) source rs b.1)

content_sound : (spelling : Spelling) (before : Before) (number position : ℕ) (c : Content) → is_content spelling before c ≡ true → all_of (is_sound_rule spelling) (rules_of_content number position c) ≡ true
content_sound spelling before number position Nothing h = refl
content_sound spelling before number position (Declares d) h = refl
content_sound spelling before number position (Rules s) h = section_sound spelling before.holes number (position + size (state_phrase s.source) + 1) s.source s.rules h

clauses_sound : (spelling : Spelling) (before : Before) (is_first : Bool) (number position : ℕ) (cs : List Clause) (parts : List (List Symbol)) → AreClauses spelling before is_first cs parts
    → all_of (is_sound_rule spelling) (placed_rules number position cs) ≡ true
clauses_sound spelling before is_first number position [] parts w = refl
clauses_sound spelling before is_first number position (c ∷ cs) [] w = absurd w
clauses_sound spelling before is_first number position (c ∷ cs) (ts ∷ others) w =
    all-append (is_sound_rule spelling) (rules_of_content number (behind_head position c) c.content) _
    (content_sound spelling before number (behind_head position c) c.content w.0.content)
    (clauses_sound spelling (behind_content spelling c.content before) false (number + count_of_rules c.content) (behind_clause position c) cs others w.1)

-- the holes of a text, with the state variables first
among-append : (xs ys : List ℕ) (n : ℕ) → is_among (xs ++ ys) n ≡ (is_among xs n || is_among ys n)
among-append [] ys n = refl
among-append (x ∷ xs) ys n = by (nat_eq x n) (among-append xs ys n)
  where
    by : (b : Bool) → is_among (xs ++ ys) n ≡ (is_among xs n || is_among ys n) → (b || is_among (xs ++ ys) n) ≡ ((b || is_among xs n) || is_among ys n)
    by true e = refl
    by false e = e

in_either : (hs : List DeclaredHole) (x : ℕ) → is_among (map (λ h. h.name) hs) x ≡ true
    → (is_among (map (λ h. h.name) (filter (λ h. h.is_state) hs)) x || is_among (map (λ h. h.name) (filter (λ h. not h.is_state) hs)) x) ≡ true
in_either [] x h = cc
in_either (g ∷ gs) x h = by g.is_state (nat_eq g.name x) refl (in_either gs x) h
  where
    vs : List ℕ
    vs = map (λ h. h.name) (filter (λ h. h.is_state) gs)

    ws : List ℕ
    ws = map (λ h. h.name) (filter (λ h. not h.is_state) gs)

    by : (b e : Bool) → nat_eq g.name x ≡ e → (is_among (map (λ h. h.name) gs) x ≡ true → (is_among (map (λ h. h.name) (filter (λ h. h.is_state) gs)) x || is_among (map (λ h. h.name) (filter (λ h. not h.is_state) gs)) x) ≡ true)
        → (e || is_among (map (λ h. h.name) gs) x) ≡ true
        → (is_among (map (λ h. h.name) (cond b (g ∷ filter (λ h. h.is_state) gs) (filter (λ h. h.is_state) gs))) x
        || is_among (map (λ h. h.name) (cond (not b) (g ∷ filter (λ h. not h.is_state) gs) (filter (λ h. not h.is_state) gs))) x) ≡ true
    by true true p f w = left _ _ (left (nat_eq g.name x) _ p)
    by true false p f w = rightly (nat_eq g.name x) _ _ (f w)
      where
        rightly : (a b c : Bool) → (b || c) ≡ true → ((a || b) || c) ≡ true
        rightly true b c h = refl
        rightly false b c h = h
    by false true p f w = right _ _ (left (nat_eq g.name x) _ p)
    by false false p f w = deeply (nat_eq g.name x) _ _ (f w)
      where
        deeply : (a b c : Bool) → (b || c) ≡ true → (b || (a || c)) ≡ true
        deeply a true c h = refl
        deeply true false c h = refl
        deeply false false c h = h

-- the lists of states stand by the numbers of their variables
at_place : (G : ℕ → List ℕ) (hs : List DeclaredHole) (k : ℕ) → k < length (map (λ h. h.name) hs) → get_or (map (λ h. G h.name) hs) k [] ≡ G (get_or (map (λ h. h.name) hs) k 0)
at_place G [] k h = absurd (omega arith)
at_place G (g ∷ gs) zero h = refl
at_place G (g ∷ gs) (suc k) h = at_place G gs k (omega arith)

states_stand : (spelling : Spelling) (hs : List DeclaredHole) (ws : List ℕ) (states : List StateName)
    → AreStates spelling (map (λ h. h.name) hs) ws states (map (λ h. states_among spelling states h.name) hs)
states_stand spelling hs ws states v a =
    let vs = map (λ h. h.name) hs in
    let s = stands vs v a in
    let e : number_in (vs ++ ws) v ≡ number_in vs v = ap (λ o. unwrap_or o 0) (in_front vs ws v a) in
    ap (λ k. get_or (map (λ h. states_among spelling states h.name) hs) k []) e ∙ at_place (states_among spelling states) hs (number_in vs v) s.below ∙ ap (states_among spelling states) s.here

rules_kept : (spelling : Spelling) (hs : List DeclaredHole) (vs ws : List ℕ) (states : List StateName) (name : ℕ) (holes : List Hole) (lists : List (List ℕ)) (rules : List Rule)
    → length holes ≡ length (vs ++ ws) → AreStates spelling vs ws states lists → ((x : ℕ) → is_among (map (λ h. h.name) hs) x ≡ true → is_among (vs ++ ws) x ≡ true) → vs ≡ variables_among hs
    → (rs : List PlacedRule) → all_of (is_sound_rule spelling) rs ≡ true → ((r : PlacedRule) (s : StateName) → OneOf r rs → OneOf s (r.source ∷ targets_of r.rule.destination) → OneOf s states) → fault_of_rules spelling hs rs ≡ None
    → AreKept (machine_for (numbering_for spelling vs ws states) name (length vs) holes lists rules) (map (rule_of (numbering_for spelling vs ws states)) rs)
rules_kept spelling hs vs ws states name holes lists rules hl l w v [] s m h = tt
rules_kept spelling hs vs ws states name holes lists rules hl l w v (r ∷ rs) s m h =
    let a = neither_fault (fault_of_rule spelling hs r) (fault_of_rules spelling hs rs) h in
    let b = both (is_sound_rule spelling r) (all_of (is_sound_rule spelling) rs) s in (
      rule_kept spelling vs ws (map (λ h. h.name) hs) states name holes lists rules r hl l w b.0 (λ t o. m r t (inl refl) o) (subst (λ k. IsFree spelling k (map (λ h. h.name) hs) r) (sym v) (free spelling hs r a.0)),
      rules_kept spelling hs vs ws states name holes lists rules hl l w v rs b.1 (λ q t o. m q t (inr o)) a.1,
    )

length-map : {A B : Type 0} (f : A → B) (xs : List A) → length (map f xs) ≡ length xs
length-map f [] = refl
length-map f (x ∷ xs) = let i = length-map f xs in omega arith

pub texts_are_kept : TextsAreKept
texts_are_kept spelling ts cs w h =
    let hs = holes_of spelling cs in
    let first = filter (λ h. h.is_state) hs in
    let others = filter (λ h. not h.is_state) hs in
    let vs = map (λ h. h.name) first in
    let ws = map (λ h. h.name) others in
    let rs = rules_of cs in
    let states = states_mentioned rs in
    let holes = map hole_of (in_order hs) in
    let lists = map (λ h. states_among spelling states h.name) first in
    let a = neither_fault (too_many Variables (passing count_of_variables most_variables 0 0 cs)) _ h in
    let b = neither_fault (too_many Holes (passing count_of_holes most_holes 0 0 cs)) _ a.1 in
    let c = neither_fault (too_many AllRules (passing count_of_rules most_rules 0 0 cs)) _ b.1 in
    let d = neither_fault (twice (repeated [] (declared_names 0 cs))) _ c.1 in
    let e : map (λ h. h.name) (in_order hs) ≡ vs ++ ws = map-append (λ h. h.name) first others in
    let long : length holes ≡ length (vs ++ ws) = length-map hole_of (in_order hs) ∙ sym (length-map (λ h. h.name) (in_order hs)) ∙ ap length e in
    let among : (x : ℕ) → is_among (map (λ h. h.name) hs) x ≡ true → is_among (vs ++ ws) x ≡ true = λ x o. among-append vs ws x ∙ in_either hs x o in
    let K : Numbering → ℕ → Type 0 = λ n k. AreKept (machine_for n (machine_name cs) k holes lists (map (rule_of n) rs)) (map (rule_of n) rs) in
    let base : K (numbering_for spelling vs ws states) (length vs) =
    rules_kept spelling hs vs ws states (machine_name cs) holes lists (map (rule_of (numbering_for spelling vs ws states)) rs) long (states_stand spelling first ws states) among refl rs
    (clauses_sound spelling nothing_before true 1 0 cs (clauses_of ts) w) (λ r s o v. of_rule rs r s o v) d.1 in
    let counted : K (numbering_for spelling vs ws states) (length first) = subst (K (numbering_for spelling vs ws states)) (length-map (λ h. h.name) first) base in
    record {
      limits = limited spelling cs h;
      rules = subst (λ ns. K (record { spelling = spelling; holes = ns; states = states }) (length first)) (sym e) counted;
    }

pub machines_are_kept : MachinesAreKept
machines_are_kept spelling ts m (cs, w, n, k, e) = subst IsKept (sym e) (texts_are_kept spelling ts cs w n)
