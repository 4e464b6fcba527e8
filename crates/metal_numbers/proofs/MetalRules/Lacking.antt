-- Whether an alternative of a rule lacks a name: by names first, and by alternatives first.
use Rattle.std.proofs.Common.{◌≡◌, ℕ, Bool, true, false, not, ◌||◌, ◌&&◌, List, [], ◌∷◌, ◌++◌, ◌<◌, length, get_or, drop, flat_map, ap, refl, ◌∙◌, sym}
use Rattle.metal_grammar.specs.Written.{members, Alternative}
use Rattle.metal_grammar.specs.Rules.{is_among, PlacedRule, pattern_names, callout_names, all_callout_names, action_names_of, variable_of, targets_of, variables_of_states, has_end}
use Rattle.metal_grammar.specs.Faults.{any_of, is_bound, is_excused, lacks_variable}
use Rattle.metal_grammar.proofs.RulesKept.{some_members}
use Rattle.metal_numbers.specs.MetalRules.RuleFaults.{needed, some_lacks, needed_hole, is_other, lacks_other, told_lacks}
use Rattle.metal_numbers.proofs.MetalRules.Variables.{equal_tests, some_has, one_has, any_over}
use Rattle.metal_written.proofs.Any.{any-append, among-flat}
use Rattle.metal_written.proofs.Nodes.{among-append}

left : (a b : Bool) → a ≡ true → (a || b) ≡ true
left a b h = rw h refl

right : (a b : Bool) → b ≡ true → (a || b) ≡ true
right true b h = refl
right false b h = h

here-step : (p q t u : Bool) → (p || q) ≡ true → (q ≡ true → u ≡ true) → ((p || t) || u) ≡ true
here-step true q t u h i = refl
here-step false q true u h i = refl
here-step false q false u h i = i h

here : {A B : Type 0} (p : A → B → Bool) (x : A) (xs : List A) (ys : List B) → any_of (p x) ys ≡ true → any_of (λ y. p x y || any_of (λ z. p z y) xs) ys ≡ true
here p x xs [] h = cc
here p x xs (y ∷ ys) h = here-step (p x y) (any_of (p x) ys) (any_of (λ z. p z y) xs) _ h (λ r. here p x xs ys r)

there-step : (p t q u : Bool) → (t || q) ≡ true → (q ≡ true → u ≡ true) → ((p || t) || u) ≡ true
there-step true t q u h i = refl
there-step false true q u h i = refl
there-step false false q u h i = i h

there : {A B : Type 0} (p : A → B → Bool) (x : A) (xs : List A) (ys : List B) → any_of (λ y. any_of (λ z. p z y) xs) ys ≡ true → any_of (λ y. p x y || any_of (λ z. p z y) xs) ys ≡ true
there p x xs [] h = cc
there p x xs (y ∷ ys) h = there-step (p x y) (any_of (λ z. p z y) xs) (any_of (λ w. any_of (λ z. p z w) xs) ys) _ h (λ r. there p x xs ys r)

chosen-of : {G : Type 0} (a b : Bool) → (a || b) ≡ true → (a ≡ true → G) → (b ≡ true → G) → G
chosen-of true b h f g = f refl
chosen-of false b h f g = g h

any_swapped : {A B : Type 0} (p : A → B → Bool) (xs : List A) (ys : List B) → any_of (λ x. any_of (p x) ys) xs ≡ true → any_of (λ y. any_of (λ x. p x y) xs) ys ≡ true
any_swapped p [] ys h = cc
any_swapped p (x ∷ xs) ys h = chosen-of (any_of (p x) ys) (any_of (λ z. any_of (p z) ys) xs) h (λ e. here p x xs ys e) (λ e. there p x xs ys (any_swapped p xs ys e))

module _ (holes : List ℕ) (r : PlacedRule) where
  -- this alternative lacks this name
  abbrev lacking : Alternative → ℕ → Bool
  lacking items name = not (is_bound holes items name || is_excused r.source items name)

  -- some alternative does
  abbrev lacked : ℕ → Bool
  lacked name = some_lacks (is_among holes name) r name

  lacked-is : (name : ℕ) → lacked name ≡ any_of (λ items. lacking items name) (members r.rule.alternatives)
  lacked-is name = some_members (λ items. lacking items name) r.rule.alternatives

  same_tests : (names : List ℕ) → any_of (λ name. any_of (λ items. lacking items name) (members r.rule.alternatives)) names ≡ any_of lacked names
  same_tests [] = refl
  same_tests (n ∷ ns) = ap (λ b. b || any_of (λ name. any_of (λ items. lacking items name) (members r.rule.alternatives)) ns) (sym (lacked-is n)) ∙ ap (λ b. lacked n || b) (same_tests ns)

  by_names : lacks_variable holes r ≡ any_of lacked (needed r)
  by_names =
      some_members (λ items. any_of (lacking items) (needed r)) r.rule.alternatives
      ∙ equal_tests _ _ (any_swapped lacking (members r.rule.alternatives) (needed r)) (any_swapped (λ name items. lacking items name) (needed r) (members r.rule.alternatives))
      ∙ same_tests (needed r)

-- where a name is no hole, an alternative lacks it where it isn't excused there
other_lacks : (holes : List ℕ) (r : PlacedRule) (name : ℕ) → is_among holes name ≡ false → lacked holes r name ≡ some_lacks false r name
other_lacks holes r name h = ap (λ b. some_lacks b r name) h

hole_lacks : (holes : List ℕ) (r : PlacedRule) (name : ℕ) → is_among holes name ≡ true → lacked holes r name ≡ some_lacks true r name
hole_lacks holes r name h = ap (λ b. some_lacks b r name) h

both : (a b : Bool) → a ≡ true → b ≡ true → (a && b) ≡ true
both a b h k = rw (h, k) refl

parts : (a b : Bool) → (a && b) ≡ true → (a ≡ true) × (b ≡ true)
parts true b h = (refl, h)
parts false b h = cc

negated : (b : Bool) → not b ≡ true → b ≡ false
negated false h = refl
negated true h = cc

-- the alternative whose callout asks of a name neither binds nor excuses it where it is no hole
abbrev unbound : PlacedRule → ℕ → Alternative → Bool
unbound r name items = not ((false && is_among (pattern_names items) name) || is_excused r.source items name)

never-excused : (b c : Bool) → c ≡ true → not (b && not c) ≡ true
never-excused true c h = rw h refl
never-excused false c h = refl

asked-one : (r : PlacedRule) (name : ℕ) (items : Alternative) → is_among (callout_names items) name ≡ true → unbound r name items ≡ true
asked-one r name items h = never-excused (has_end items && is_among (variable_of r.source) name) (is_among (callout_names items) name) h

asked-all : (r : PlacedRule) (name : ℕ) (os : List Alternative) → any_of (λ items. is_among (callout_names items) name) os ≡ true → any_of (unbound r name) os ≡ true
asked-all r name [] h = cc
asked-all r name (items ∷ os) h =
    chosen-of (is_among (callout_names items) name) (any_of (λ xs. is_among (callout_names xs) name) os) h
    (λ e. left (unbound r name items) (any_of (unbound r name) os) (asked-one r name items e))
    (λ e. right (unbound r name items) (any_of (unbound r name) os) (asked-all r name os e))

asked-lacks : (r : PlacedRule) (name : ℕ) → is_among (all_callout_names r.rule) name ≡ true → some_lacks false r name ≡ true
asked-lacks r name h =
    some_members (unbound r name) r.rule.alternatives
    ∙ asked-all r name (members r.rule.alternatives) (sym (among-flat callout_names (members r.rule.alternatives) name) ∙ h)

module _ (holes : List ℕ) (r : PlacedRule) where
  abbrev states : List ℕ
  states = variables_of_states r

  abbrev asked : List ℕ
  asked = all_callout_names r.rule

  abbrev told : List ℕ
  told = action_names_of r.rule.action

  in-states : (n : ℕ) → is_among states n ≡ true → is_among (needed r) n ≡ true
  in-states n h = among-append (states ++ asked) told n ∙ left _ _ (among-append states asked n ∙ left _ _ h)

  in-asked : (n : ℕ) → is_among asked n ≡ true → is_among (needed r) n ≡ true
  in-asked n h = among-append (states ++ asked) told n ∙ left _ _ (among-append states asked n ∙ right _ _ h)

  in-told : (n : ℕ) → is_among told n ≡ true → is_among (needed r) n ≡ true
  in-told n h = among-append (states ++ asked) told n ∙ right _ _ h

  found : (n : ℕ) → is_among (needed r) n ≡ true → lacked holes r n ≡ true → any_of (lacked holes r) (needed r) ≡ true
  found n h t = some_has (lacked holes r) (needed r) n h t

  other : (n : ℕ) → lacks_other holes r n ≡ true → lacked holes r n ≡ true
  other n h = let p = parts (is_other holes n) (some_lacks false r n) h in other_lacks holes r n (negated (is_among holes n) p.0) ∙ p.1

  from-hole : any_of (needed_hole r) holes ≡ true → any_of (lacked holes r) (needed r) ≡ true
  from-hole h =
      let o = one_has (needed_hole r) holes h in
      let p = parts (is_among (needed r) o.one) (some_lacks true r o.one) o.passes in
      found o.one p.0 (hole_lacks holes r o.one o.among ∙ p.1)

  from-asked : any_of (is_other holes) asked ≡ true → any_of (lacked holes r) (needed r) ≡ true
  from-asked h =
      let o = one_has (is_other holes) asked h in
      found o.one (in-asked o.one o.among) (other_lacks holes r o.one (negated (is_among holes o.one) o.passes) ∙ asked-lacks r o.one o.among)

  from-other : any_of (lacks_other holes r) (states ++ told) ≡ true → any_of (lacked holes r) (needed r) ≡ true
  from-other h =
      let o = one_has (lacks_other holes r) (states ++ told) h in
      chosen-of (is_among states o.one) (is_among told o.one) (sym (among-append states told o.one) ∙ o.among)
      (λ e. found o.one (in-states o.one e) (other o.one o.passes)) (λ e. found o.one (in-told o.one e) (other o.one o.passes))

  sorted : (n : ℕ) → is_among holes n ≡ false → some_lacks false r n ≡ true → is_among (needed r) n ≡ true → (any_of (is_other holes) asked || any_of (lacks_other holes r) (states ++ told)) ≡ true
  sorted n e t i =
      chosen-of (is_among (states ++ asked) n) (is_among told n) (sym (among-append (states ++ asked) told n) ∙ i)
      (λ h. chosen-of (is_among states n) (is_among asked n) (sym (among-append states asked n) ∙ h)
      (λ k. right _ _ (some_has (lacks_other holes r) (states ++ told) n (among-append states told n ∙ left _ _ k) (both _ _ (ap not e) t)))
      (λ k. left _ _ (some_has (is_other holes) asked n k (ap not e))))
      (λ h. right _ _ (some_has (lacks_other holes r) (states ++ told) n (among-append states told n ∙ right _ _ h) (both _ _ (ap not e) t)))

  hole-or-not : (n : ℕ) (b : Bool) → is_among holes n ≡ b → is_among (needed r) n ≡ true → lacked holes r n ≡ true
      → (any_of (needed_hole r) holes || (any_of (is_other holes) asked || any_of (lacks_other holes r) (states ++ told))) ≡ true
  hole-or-not n true e i t = left _ _ (some_has (needed_hole r) holes n e (both _ _ i (sym (hole_lacks holes r n e) ∙ t)))
  hole-or-not n false e i t = right _ _ (sorted n e (sym (other_lacks holes r n e) ∙ t) i)

-- The names that a rule needs: holes one by one, names that callouts ask of, and the others.
pub lacks_by_kind : (holes : List ℕ) (r : PlacedRule) →
    (any_of (needed_hole r) holes
    || (any_of (is_other holes) (all_callout_names r.rule) || any_of (lacks_other holes r) (variables_of_states r ++ action_names_of r.rule.action)))
    ≡ lacks_variable holes r
lacks_by_kind holes r =
    equal_tests _ _
    (λ h.
    chosen-of (any_of (needed_hole r) holes) (any_of (is_other holes) (asked holes r) || any_of (lacks_other holes r) (states holes r ++ told holes r)) h (from-hole holes r)
    (λ k. chosen-of (any_of (is_other holes) (asked holes r)) (any_of (lacks_other holes r) (states holes r ++ told holes r)) k (from-asked holes r) (from-other holes r)))
    (λ h. let o = one_has (lacked holes r) (needed r) h in hole-or-not holes r o.one (is_among holes o.one) refl o.among o.passes)
    ∙ sym (by_names holes r)

module _ (holes : List ℕ) (r : PlacedRule) where
  -- one of the three kinds after the other
  pub by-hole : any_of (needed_hole r) holes ≡ true → lacks_variable holes r ≡ true
  by-hole h = sym (lacks_by_kind holes r) ∙ left _ _ h

  pub by-asked : any_of (is_other holes) (all_callout_names r.rule) ≡ true → lacks_variable holes r ≡ true
  by-asked h = sym (lacks_by_kind holes r) ∙ right _ _ (left _ _ h)

  pub by-neither : any_of (needed_hole r) holes ≡ false → any_of (is_other holes) (all_callout_names r.rule) ≡ false
      → any_of (lacks_other holes r) (variables_of_states r ++ action_names_of r.rule.action) ≡ lacks_variable holes r
  by-neither h k =
      let others = any_of (lacks_other holes r) (variables_of_states r ++ action_names_of r.rule.action) in
      sym (ap (λ b. b || (any_of (is_other holes) (all_callout_names r.rule) || others)) h ∙ ap (λ b. b || others) k) ∙ lacks_by_kind holes r

  -- the next hole is such a one
  pub needed-here : (i d : ℕ) → i < length holes → is_among (needed r) (get_or holes i d) ≡ true → some_lacks true r (get_or holes i d) ≡ true → any_of (needed_hole r) (drop i holes) ≡ true
  needed-here i d h p q = any_over (needed_hole r) holes i d h ∙ left _ _ (both _ _ p q)

once-step : (is : ℕ → Bool) (source rest : List ℕ) (n : ℕ) (b : Bool) → is_among source n ≡ b → is_among rest n ≡ true → is n ≡ true → (any_of is source || any_of (λ n. not (is_among source n) && is n) rest) ≡ true
once-step is source rest n true e i t = left _ _ (some_has is source n e t)
once-step is source rest n false e i t = right _ _ (some_has (λ n. not (is_among source n) && is n) rest n i (both _ _ (ap not e) t))

-- the variable of the source is asked once
pub told_once : (is : ℕ → Bool) (source rest : List ℕ) → (any_of is source || any_of (λ n. not (is_among source n) && is n) rest) ≡ (any_of is source || any_of is rest)
told_once is source rest = equal_tests _ _
    (λ h. chosen-of (any_of is source) (any_of (λ n. not (is_among source n) && is n) rest) h (λ e. left _ _ e)
    (λ e. let o = one_has (λ n. not (is_among source n) && is n) rest e in right _ _ (some_has is rest o.one o.among (parts (not (is_among source o.one)) (is o.one) o.passes).1)))
    (λ h. chosen-of (any_of is source) (any_of is rest) h (λ e. left _ _ e) (λ e. let o = one_has is rest e in once-step is source rest o.one (is_among source o.one) refl o.among o.passes))

three-step : (s t m n : Bool) → (s || m) ≡ (s || n) → ((s || t) || m) ≡ ((s || t) || n)
three-step true t m n e = refl
three-step false true m n e = refl
three-step false false m n e = e

-- the parts in turn: the source, the targets, and the message
pub three : (is : ℕ → Bool) (source targets rest : List ℕ) → ((any_of is source || any_of is targets) || any_of (λ n. not (is_among source n) && is n) rest) ≡ any_of is ((source ++ targets) ++ rest)
three is source targets rest =
    three-step (any_of is source) (any_of is targets) _ _ (told_once is source rest)
    ∙ sym (any-append is (source ++ targets) rest ∙ ap (λ b. b || any_of is rest) (any-append is source targets))

pub three-lack : (holes : List ℕ) (r : PlacedRule) →
    ((any_of (lacks_other holes r) (variable_of r.source) || any_of (lacks_other holes r) (flat_map variable_of (targets_of r.rule.destination)))
    || any_of (told_lacks holes r) (action_names_of r.rule.action))
    ≡ any_of (lacks_other holes r) (variables_of_states r ++ action_names_of r.rule.action)
three-lack holes r = three (lacks_other holes r) (variable_of r.source) (flat_map variable_of (targets_of r.rule.destination)) (action_names_of r.rule.action)

pub ruleset others = (three-lack, any-append)
