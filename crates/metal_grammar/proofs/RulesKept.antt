-- A rule without a fault is kept to by the rule of the machine.
use Rattle.std.proofs.Common.{◌≡◌, ◌⊎◌, inl, inr, ℕ, Bool, true, false, cond, not, nat_eq, nat_lt, ◌||◌, ◌&&◌, is_none, List, [], ◌∷◌, ◌++◌, length, get_or, map, filter, flat_map, Option, None, Some, ap, refl, ◌∙◌, sym}
use Rattle.std.proofs.lemmas.List.{map-append}
use Rattle.metal_tree.specs.MetalMachines.Machine.{Hole, ToObject, ToUnknown, Rule, Machine}
use Rattle.metal_tree.specs.MetalMachines.Kept as kept
use Rattle.metal_tree.specs.MetalMachines.Kept.{all_of, any_of, are_one, targets, bound_in, asked_in, named_in, variable_of_source, variable_of_target, is_source_of, is_target_of, is_in_range, is_variable, has_one_variable, is_split_well, goes_from, binds, binds_all, named_by, named_outside_states, IsKeptBy}
use Rattle.metal_grammar.specs.Words.{Spelling}
use Rattle.metal_grammar.specs.Written.{Row, lone, row, members, StateName, OfMachine, OfVariable, WrittenItem, Pattern, Callout, Dollars, Destination, To, Split, WrittenAction, Alternative}
use Rattle.metal_grammar.specs.Grammar.{some, each, is_end}
use Rattle.metal_grammar.specs.Meaning.{number_in, globals_among, states_among, Numbering, state_number, source_of, target_of, dest_of, item_of, action_of}
use Rattle.metal_grammar.specs.Message.{message_with}
use Rattle.metal_grammar.specs.Rules.{is_among, targets_of, variable_of, pattern_names, callout_names, action_names_of, has_end}
use Rattle.metal_grammar.specs.Faults.{is_stop, is_misnamed, is_global, unknown_callout_of, any_wide, is_bad_format}
use Rattle.metal_grammar.proofs.HolesNumbered.{both}
use Rattle.metal_grammar.proofs.Numbered.{equal, either, right, front_below, is_front, Within}
use Rattle.metal_grammar.proofs.StatesNumbered.{OneOf, lower, global_below, state_below}
use Rattle.metal_grammar.proofs.RulesNumbered.{is_sound, filter-append, held, items_bound, items_asked, neither, action_named}

-- Booleans
pub flipped : (b : Bool) → not b ≡ false → b ≡ true
flipped true h = refl
flipped false h = cc

pub flipped_true : (b : Bool) → b ≡ false → not b ≡ true
flipped_true true h = cc
flipped_true false h = refl

pub left : (a b : Bool) → a ≡ true → (a || b) ≡ true
left true b h = refl
left false b h = cc

pub joined : (a b : Bool) → a ≡ true → b ≡ true → (a && b) ≡ true
joined true true p q = refl
joined true false p q = cc
joined false b p q = cc

pub choice : (a b : Bool) → (a || b) ≡ true → (a ≡ true) ⊎ (b ≡ true)
choice true b h = inl refl
choice false b h = inr h

-- lists
pub all-append : {A : Type 0} (is : A → Bool) (xs ys : List A) → all_of is xs ≡ true → all_of is ys ≡ true → all_of is (xs ++ ys) ≡ true
all-append is [] ys p q = q
all-append is (x ∷ xs) ys p q = let b = both (is x) (all_of is xs) p in joined (is x) _ b.0 (all-append is xs ys b.1 q)

pub all-split : {A : Type 0} (is : A → Bool) (xs ys : List A) → all_of is (xs ++ ys) ≡ true → (all_of is xs ≡ true) × (all_of is ys ≡ true)
all-split is [] ys h = (refl, h)
all-split is (x ∷ xs) ys h =
    let b = both (is x) (all_of is (xs ++ ys)) h in
    let i = all-split is xs ys b.1 in
    (joined (is x) (all_of is xs) b.0 i.0, i.1)

pub all-weaker : {A : Type 0} (is as_well : A → Bool) (xs : List A) → ((x : A) → is x ≡ true → as_well x ≡ true) → all_of is xs ≡ true → all_of as_well xs ≡ true
all-weaker is as_well [] f h = refl
all-weaker is as_well (x ∷ xs) f h = let b = both (is x) (all_of is xs) h in joined (as_well x) _ (f x b.0) (all-weaker is as_well xs f b.1)

pub any-append : {A : Type 0} (is : A → Bool) (xs ys : List A) → any_of is (xs ++ ys) ≡ (any_of is xs || any_of is ys)
any-append is [] ys = refl
any-append is (x ∷ xs) ys = by (is x) (any-append is xs ys)
  where
    by : (b : Bool) → any_of is (xs ++ ys) ≡ (any_of is xs || any_of is ys) → (b || any_of is (xs ++ ys)) ≡ ((b || any_of is xs) || any_of is ys)
    by true e = refl
    by false e = e

pub some_members : {A : Type 0} (is : A → Bool) (xs : Row A) → some is xs ≡ any_of is (members xs)
some_members is (lone x) = by (is x)
  where
    by : (b : Bool) → b ≡ (b || false)
    by true = refl
    by false = refl
some_members is (row x xs) = ap (λ b. is x || b) (some_members is xs)

pub each_members : {A : Type 0} (is : A → Bool) (xs : Row A) → each is xs ≡ all_of is (members xs)
each_members is (lone x) = by (is x)
  where
    by : (b : Bool) → b ≡ (b && true)
    by true = refl
    by false = refl
each_members is (row x xs) = ap (λ b. is x && b) (each_members is xs)

-- the names that stand for holes
pub among-left : (xs ys : List ℕ) (n : ℕ) → is_among xs n ≡ true → is_among (xs ++ ys) n ≡ true
among-left [] ys n h = cc
among-left (x ∷ xs) ys n h = by (nat_eq x n) (among-left xs ys n) h
  where
    by : (b : Bool) → (is_among xs n ≡ true → is_among (xs ++ ys) n ≡ true) → (b || is_among xs n) ≡ true → (b || is_among (xs ++ ys) n) ≡ true
    by true f w = refl
    by false f w = f w

pub within_held : (ns xs : List ℕ) → Within ns (held ns xs)
within_held ns [] = refl
within_held ns (x ∷ xs) = by (is_among ns x) refl (within_held ns xs)
  where
    by : (b : Bool) → is_among ns x ≡ b → Within ns (held ns xs) → Within ns (cond b (x ∷ held ns xs) (held ns xs))
    by true e w = joined (is_among ns x) _ e w
    by false e w = w

pub among_held : (ns xs : List ℕ) (n : ℕ) → is_among ns n ≡ true → is_among xs n ≡ true → is_among (held ns xs) n ≡ true
among_held ns [] n g h = cc
among_held ns (x ∷ xs) n g h = by (nat_eq x n) (is_among ns x) refl refl (among_held ns xs n g) h
  where
    by : (b c : Bool) → nat_eq x n ≡ b → is_among ns x ≡ c → (is_among xs n ≡ true → is_among (held ns xs) n ≡ true) → (b || is_among xs n) ≡ true → is_among (cond c (x ∷ held ns xs) (held ns xs)) n ≡ true
    by true true p q f w = left (nat_eq x n) _ p
    by true false p q f w = let t : is_among ns x ≡ true = ap (is_among ns) (equal x n p) ∙ g in cc
    by false true p q f w = right (nat_eq x n) _ (f w)
    by false false p q f w = f w

-- names in front are among all
pub front_held : (vs ws xs : List ℕ) → filter (is_among vs) (held (vs ++ ws) xs) ≡ filter (is_among vs) xs
front_held vs ws [] = refl
front_held vs ws (x ∷ xs) = by (is_among vs x) (is_among (vs ++ ws) x) refl refl (front_held vs ws xs)
  where
    by : (b c : Bool) → is_among vs x ≡ b → is_among (vs ++ ws) x ≡ c → filter (is_among vs) (held (vs ++ ws) xs) ≡ filter (is_among vs) xs
        → filter (is_among vs) (cond c (x ∷ held (vs ++ ws) xs) (held (vs ++ ws) xs)) ≡ cond b (x ∷ filter (is_among vs) xs) (filter (is_among vs) xs)
    by true true p q i = ap (λ b. cond b (x ∷ filter (is_among vs) (held (vs ++ ws) xs)) (filter (is_among vs) (held (vs ++ ws) xs))) p ∙ ap (λ l. x ∷ l) i
    by true false p q i = let t : is_among (vs ++ ws) x ≡ true = among-left vs ws x p in cc
    by false true p q i = ap (λ b. cond b (x ∷ filter (is_among vs) (held (vs ++ ws) xs)) (filter (is_among vs) (held (vs ++ ws) xs))) p ∙ i
    by false false p q i = i

pub any_held : (vs ws xs : List ℕ) → any_of (is_among vs) (held (vs ++ ws) xs) ≡ any_of (is_among vs) xs
any_held vs ws [] = refl
any_held vs ws (x ∷ xs) = by (is_among vs x) (is_among (vs ++ ws) x) refl refl (any_held vs ws xs)
  where
    by : (b c : Bool) → is_among vs x ≡ b → is_among (vs ++ ws) x ≡ c → any_of (is_among vs) (held (vs ++ ws) xs) ≡ any_of (is_among vs) xs
        → any_of (is_among vs) (cond c (x ∷ held (vs ++ ws) xs) (held (vs ++ ws) xs)) ≡ (b || any_of (is_among vs) xs)
    by b true p q i = ap (λ b. b || any_of (is_among vs) (held (vs ++ ws) xs)) p ∙ ap (λ c. b || c) i
    by true false p q i = let t : is_among (vs ++ ws) x ≡ true = among-left vs ws x p in cc
    by false false p q i = i

pub some_numbers : (vs ws xs : List ℕ) → Within (vs ++ ws) xs → any_of (λ k. nat_lt k (length vs)) (map (number_in (vs ++ ws)) xs) ≡ any_of (is_among vs) xs
some_numbers vs ws [] h = refl
some_numbers vs ws (x ∷ xs) h =
    let b = both (is_among (vs ++ ws) x) (all_of (is_among (vs ++ ws)) xs) h in
    ap (λ c. c || any_of (λ k. nat_lt k (length vs)) (map (number_in (vs ++ ws)) xs)) (is_front vs ws x b.0) ∙ ap (λ c. is_among vs x || c) (some_numbers vs ws xs b.1)

-- What gives names their numbers where these are the names of the variables and of the other holes.
abbrev pub numbering_for : Spelling → List ℕ → List ℕ → List StateName → Numbering
numbering_for spelling vs ws states = record { spelling = spelling; holes = vs ++ ws; states = states }

abbrev pub machine_for : Numbering → ℕ → ℕ → List Hole → List (List ℕ) → List Rule → Machine
machine_for n name variables holes states rules = record { name = name; variables = variables; holes = holes; globals = globals_among n.spelling n.states; states = states; rules = rules }

-- The lists of states stand by the numbers of their variables.
abbrev pub AreStates : Spelling → List ℕ → List ℕ → List StateName → List (List ℕ) → Type 0
AreStates spelling vs ws states lists = (v : ℕ) → is_among vs v ≡ true → get_or lists (number_in (vs ++ ws) v) [] ≡ states_among spelling states v

-- states in range
state_in : (spelling : Spelling) (vs ws : List ℕ) (states : List StateName) (name : ℕ) (holes : List Hole) (lists : List (List ℕ)) (rules : List Rule) → AreStates spelling vs ws states lists
    → (v s : ℕ) → is_among vs v ≡ true → is_stop spelling (OfVariable v s) ≡ false → OneOf (OfVariable v s) states
    → kept.is_state_of (machine_for (numbering_for spelling vs ws states) name (length vs) holes lists rules) (number_in (vs ++ ws) v) (state_number (numbering_for spelling vs ws states) v s) ≡ true
state_in spelling vs ws states name holes lists rules l v s a q w =
    let n = numbering_for spelling vs ws states in
    joined (nat_lt (number_in (vs ++ ws) v) (length vs)) _ (lower (number_in (vs ++ ws) v) (length vs) (front_below vs ws v a))
    (ap (λ k. nat_lt (state_number n v s) (length k)) (l v a) ∙ state_below n v s w q)

pub source_in : (spelling : Spelling) (vs ws : List ℕ) (states : List StateName) (name : ℕ) (holes : List Hole) (lists : List (List ℕ)) (rules : List Rule) → AreStates spelling vs ws states lists
    → (s : StateName) → is_misnamed vs s ≡ false → is_stop spelling s ≡ false → OneOf s states
    → is_source_of (machine_for (numbering_for spelling vs ws states) name (length vs) holes lists rules) (source_of (numbering_for spelling vs ws states) s) ≡ true
source_in spelling vs ws states name holes lists rules l (OfMachine s) m q w = global_below (numbering_for spelling vs ws states) s w
source_in spelling vs ws states name holes lists rules l (OfVariable v s) m q w = state_in spelling vs ws states name holes lists rules l v s (flipped (is_among vs v) m) q w

pub target_in : (spelling : Spelling) (vs ws : List ℕ) (states : List StateName) (name : ℕ) (holes : List Hole) (lists : List (List ℕ)) (rules : List Rule) → AreStates spelling vs ws states lists
    → (s : StateName) → is_misnamed vs s ≡ false → OneOf s states
    → is_target_of (machine_for (numbering_for spelling vs ws states) name (length vs) holes lists rules) (target_of (numbering_for spelling vs ws states) s) ≡ true
target_in spelling vs ws states name holes lists rules l (OfMachine s) m w = global_below (numbering_for spelling vs ws states) s w
target_in spelling vs ws states name holes lists rules l (OfVariable v s) m w = by (is_stop spelling (OfVariable v s)) refl
  where
    a : is_among vs v ≡ true
    a = flipped (is_among vs v) m

    by : (b : Bool) → is_stop spelling (OfVariable v s) ≡ b
        → is_target_of (machine_for (numbering_for spelling vs ws states) name (length vs) holes lists rules)
        (cond b (ToUnknown (number_in (vs ++ ws) v)) (ToObject (number_in (vs ++ ws) v) (state_number (numbering_for spelling vs ws states) v s))) ≡ true
    by true e = lower (number_in (vs ++ ws) v) (length vs) (front_below vs ws v a)
    by false e = state_in spelling vs ws states name holes lists rules l v s a e w

pub dest_in : (spelling : Spelling) (vs ws : List ℕ) (states : List StateName) (name : ℕ) (holes : List Hole) (lists : List (List ℕ)) (rules : List Rule) → AreStates spelling vs ws states lists
    → (d : Destination) → any_of (is_misnamed vs) (targets_of d) ≡ false → ((s : StateName) → OneOf s (targets_of d) → OneOf s states)
    → all_of (is_target_of (machine_for (numbering_for spelling vs ws states) name (length vs) holes lists rules)) (targets (dest_of (numbering_for spelling vs ws states) d)) ≡ true
dest_in spelling vs ws states name holes lists rules l (To t) m f =
    let b = either (is_misnamed vs t) false m in
    joined _ true (target_in spelling vs ws states name holes lists rules l t b.0 (f t (inl refl))) refl
dest_in spelling vs ws states name holes lists rules l (Split x t y u) m f =
    let b = either (is_misnamed vs t) (is_misnamed vs u || false) m in
    let c = either (is_misnamed vs u) false b.1 in
    joined _ _ (target_in spelling vs ws states name holes lists rules l t b.0 (f t (inl refl)))
    (joined _ true (target_in spelling vs ws states name holes lists rules l u c.0 (f u (inr (inl refl)))) refl)

-- the variables of states that aren't misnamed
pub variables_within : (vs : List ℕ) (ss : List StateName) → any_of (is_misnamed vs) ss ≡ false → all_of (is_among vs) (flat_map variable_of ss) ≡ true
variables_within vs [] h = refl
variables_within vs (OfMachine s ∷ ss) h = variables_within vs ss (either (is_misnamed vs (OfMachine s)) (any_of (is_misnamed vs) ss) h).1
variables_within vs (OfVariable v s ∷ ss) h =
    let b = either (is_misnamed vs (OfVariable v s)) (any_of (is_misnamed vs) ss) h in
    joined (is_among vs v) _ (flipped (is_among vs v) b.0) (variables_within vs ss b.1)

-- what all alternatives name
pub alternatives_bound : (n : Numbering) (os : List Alternative) → all_of (λ items. all_of (is_sound n.spelling) (members items)) os ≡ true
    → flat_map bound_in (map (λ items. map (item_of n) (members items)) os) ≡ map (number_in n.holes) (held n.holes (flat_map pattern_names os))
alternatives_bound n [] h = refl
alternatives_bound n (o ∷ os) h =
    let b = both (all_of (is_sound n.spelling) (members o)) (all_of (λ items. all_of (is_sound n.spelling) (members items)) os) h in
    let f = number_in n.holes in
    ap (λ l. l ++ flat_map bound_in (map (λ items. map (item_of n) (members items)) os)) (items_bound n (members o) b.0)
    ∙ ap (λ l. map f (held n.holes (pattern_names o)) ++ l) (alternatives_bound n os b.1)
    ∙ sym (map-append f (held n.holes (pattern_names o)) (held n.holes (flat_map pattern_names os)))
    ∙ ap (map f) (sym (filter-append (is_among n.holes) (pattern_names o) (flat_map pattern_names os)))

pub alternatives_asked : (n : Numbering) (os : List Alternative) → all_of (λ items. all_of (is_sound n.spelling) (members items)) os ≡ true
    → flat_map (λ items. flat_map (unknown_callout_of n.spelling) (members items)) os ≡ []
    → flat_map asked_in (map (λ items. map (item_of n) (members items)) os) ≡ map (number_in n.holes) (flat_map callout_names os)
alternatives_asked n [] h u = refl
alternatives_asked n (o ∷ os) h u =
    let b = both (all_of (is_sound n.spelling) (members o)) (all_of (λ items. all_of (is_sound n.spelling) (members items)) os) h in
    let v = neither (flat_map (unknown_callout_of n.spelling) (members o)) (flat_map (λ items. flat_map (unknown_callout_of n.spelling) (members items)) os) u in
    ap (λ l. l ++ flat_map asked_in (map (λ items. map (item_of n) (members items)) os)) (items_asked n (members o) b.0 v.0)
    ∙ ap (λ l. map (number_in n.holes) (callout_names o) ++ l) (alternatives_asked n os b.1 v.1)
    ∙ sym (map-append (number_in n.holes) (callout_names o) (flat_map callout_names os))

pub maybe_named : (n : Numbering) (a : Option WrittenAction) → is_bad_format n.spelling a ≡ false → named_in (action_of n a) ≡ map (number_in n.holes) (action_names_of a)
maybe_named n None h = refl
maybe_named n (Some a) h = action_named n a (either (any_wide (members a.literals)) (is_none (message_with n.spelling a (action_names_of (Some a)))) h).1

-- the end of a path, and states of the machine
items_end : (n : Numbering) (is : List WrittenItem) → kept.has_end (map (item_of n) is) ≡ any_of is_end is
items_end n [] = refl
items_end n (Pattern e semicolon ∷ is) = items_end n is
items_end n (Callout negated callout ∷ is) = items_end n is
items_end n (Dollars name ∷ is) = refl

pub same_end : (n : Numbering) (items : Alternative) → kept.has_end (map (item_of n) (members items)) ≡ has_end items
same_end n items = items_end n (members items) ∙ sym (some_members is_end items)

pub ends : (n : Numbering) (os : List Alternative) → any_of kept.has_end (map (λ items. map (item_of n) (members items)) os) ≡ any_of has_end os
ends n [] = refl
ends n (o ∷ os) = ap (λ b. b || any_of kept.has_end (map (λ items. map (item_of n) (members items)) os)) (same_end n o) ∙ ap (λ b. has_end o || b) (ends n os)

pub target_global : (n : Numbering) (s : StateName) → kept.is_global (target_of n s) ≡ is_global s
target_global n (OfMachine s) = refl
target_global n (OfVariable v s) = by (is_stop n.spelling (OfVariable v s))
  where
    by : (b : Bool) → kept.is_global (cond b (ToUnknown (number_in n.holes v)) (ToObject (number_in n.holes v) (state_number n v s))) ≡ false
    by true = refl
    by false = refl

pub some_targets : (n : Numbering) (d : Destination) → any_of (λ t. not (kept.is_global t)) (targets (dest_of n d)) ≡ any_of (λ t. not (is_global t)) (targets_of d)
some_targets n (To t) = ap (λ b. not b || false) (target_global n t)
some_targets n (Split x t y u) = ap (λ b. not b || (not (kept.is_global (target_of n u)) || false)) (target_global n t) ∙ ap (λ b. not (is_global t) || (not b || false)) (target_global n u)

pub all_targets : (n : Numbering) (d : Destination) → any_of is_global (targets_of d) ≡ false → all_of (λ t. not (kept.is_global t)) (targets (dest_of n d)) ≡ true
all_targets n (To t) h = let b = either (is_global t) false h in joined _ true (flipped_true _ (target_global n t ∙ b.0)) refl
all_targets n (Split x t y u) h =
    let b = either (is_global t) (is_global u || false) h in
    let c = either (is_global u) false b.1 in
    joined _ _ (flipped_true _ (target_global n t ∙ b.0)) (joined _ true (flipped_true _ (target_global n u ∙ c.0)) refl)
