-- Who is asked takes the first of the rules that apply that it may take: so alternatives are matched once for all who are asked.
use Rattle.std.proofs.Common.{arith, ◌≡◌, ℕ, ◌+◌, Bool, true, false, cond, List, [], ◌∷◌, ◌++◌, Option, None, Some, refl, sym, ap, subst, ◌∙◌, ◌&&◌}
use Rattle.std.specs.Prelude.{flat_map}
use Rattle.std.specs.List.{enumerate_from}
use Rattle.std.specs.Option.{option_map, option_to_list}
use Rattle.state_tuples.proofs.AppliedRules.Numbered.{numbered, without_numbers, Stands, stands}
use Rattle.state_tuples.specs.AppliedRules.Applied.{Applied, with_number, taken_with, applied_alternative, applied_rule, applied_at}
use Rattle.state_tuples.specs.Ways.Firsts.{picked, rule_taken}
use Rattle.flow_graph.specs.CPaths.Events.{Event}
use Rattle.type_rules.specs.Options.{or_else, ◌>?◌}
use Rattle.path_model.proofs.CheckerModel.Sources.{given, tested}
use Rattle.path_model.specs.CheckerModel.Choices.{Taken, first_some, applied}
use Rattle.hole_matching.specs.Holes.{Setting}
use Rattle.hole_matching.specs.Matching.{Binding}
use Rattle.metal_tree.specs.MetalMachines.Machine.{Item, Rule}
use Rattle.state_tuples.proofs.RuleChoices.AskedRules.{asked}
use Rattle.state_tuples.specs.RuleChoices.Asked.{Asker, asked_rule, may_take, fits, by_items}
use Rattle.state_tuples.specs.RuleChoices.Firsts.{IsFirst}

or_else-assoc : {A : Type 0} (x y z : Option A) → or_else x (or_else y z) ≡ or_else (or_else x y) z
or_else-assoc None y z = refl
or_else-assoc (Some a) y z = refl

first_some-both : {A B : Type 0} (f : A → Option B) (xs ys : List A) → first_some f (xs ++ ys) ≡ or_else (first_some f xs) (first_some f ys)
first_some-both f [] ys = refl
first_some-both f (x ∷ xs) ys = ap (or_else (f x)) (first_some-both f xs ys) ∙ or_else-assoc (f x) (first_some f xs) (first_some f ys)

either-tested : {A : Type 0} (m : Bool) (x y : Option A) → or_else (cond m x None) (cond m y None) ≡ cond m (or_else x y) None
either-tested true x y = refl
either-tested false x y = refl

taken-tested : (m : Bool) (x : Option Applied) → rule_taken (cond m x None) ≡ cond m (rule_taken x) None
taken-tested true x = refl
taken-tested false x = refl

taken-either : (x y : Option Applied) → rule_taken (or_else x y) ≡ or_else (rule_taken x) (rule_taken y)
taken-either None y = refl
taken-either (Some x) y = refl

-- one of a list gives what the first gives
one-gives : {A B : Type 0} (f : A → Option B) (xs : List A) (y : B) → first_some f xs ≡ Some y → (x : A) × (f x ≡ Some y)
one-gives f [] y h = cc
one-gives {A = A} {B = B} f (x ∷ xs) y h = by (f x) refl h (one-gives f xs y)
  where
    by : (o : Option B) → f x ≡ o → or_else o (first_some f xs) ≡ Some y → (first_some f xs ≡ Some y → (x : A) × (f x ≡ Some y)) → (x : A) × (f x ≡ Some y)
    by None e k rest = rest k
    by (Some z) e k rest = let same : Some z ≡ Some y = k in (x, e ∙ same)

module _ (g : Setting) (e : Event) (state : ℕ) (a : Asker) where
  module _ (r : Rule) where
    two-tests : (m p : Bool) (n : ℕ) (b : Binding) → or_else (cond (m && p) (Some (with_number n (taken_with r b))) None) None
        ≡ cond m (option_map (with_number n) (cond p (Some (taken_with r b)) None)) None
    two-tests true true n b = refl
    two-tests true false n b = refl
    two-tests false p n b = refl

    by-binding : (m : Bool) (n : ℕ) (o : Option Binding) → may_take e state a r ≡ m
        → first_some (picked g e state a) (option_to_list (option_map (λ b. with_number n (taken_with r b)) o))
        ≡ cond m (option_map (with_number n) (o >? λ b. cond (fits g e a r b) (Some (taken_with r b)) None)) None
    by-binding true n None h = refl
    by-binding false n None h = refl
    by-binding m n (Some b) h = ap (λ z. or_else (cond (z && fits g e a r b) (Some (with_number n (taken_with r b))) None) None) h ∙ two-tests m (fits g e a r b) n b

    by-alternatives : (m : Bool) (n : ℕ) (xs : List (List Item)) → may_take e state a r ≡ m
        → first_some (picked g e state a) (flat_map (applied_alternative g e r) (enumerate_from n xs)) ≡ cond m (first_some (numbered (by_items g e a r)) (enumerate_from n xs)) None
    by-alternatives true n [] h = refl
    by-alternatives false n [] h = refl
    by-alternatives m n (x ∷ xs) h =
        first_some-both (picked g e state a) (applied_alternative g e r (n, x)) (flat_map (applied_alternative g e r) (enumerate_from (n + 1) xs))
        ∙ ap (λ z. or_else z (first_some (picked g e state a) (flat_map (applied_alternative g e r) (enumerate_from (n + 1) xs)))) (by-binding m n (applied g e r.dest x) h)
        ∙ ap (or_else (cond m (numbered (by_items g e a r) (n, x)) None)) (by-alternatives m (n + 1) xs h)
        ∙ either-tested m (numbered (by_items g e a r) (n, x)) (first_some (numbered (by_items g e a r)) (enumerate_from (n + 1) xs))

    -- the rule as it is taken, with the number of the alternative
    abbrev numbered_rule : Option Applied
    numbered_rule = cond (may_take e state a r) (first_some (numbered (by_items g e a r)) (enumerate_from 0 r.alternatives)) None

    by-rule : first_some (picked g e state a) (applied_rule g e r) ≡ numbered_rule
    by-rule = by-alternatives (may_take e state a r) 0 r.alternatives refl

    same-rule : rule_taken numbered_rule ≡ asked_rule g e state a r
    same-rule =
        taken-tested (may_take e state a r) (first_some (numbered (by_items g e a r)) (enumerate_from 0 r.alternatives))
        ∙ ap (λ (o : Option Taken). cond (may_take e state a r) o None) (without_numbers (by_items g e a r) 0 r.alternatives)
        ∙ asked g e state a r

    -- what an alternative gives is this rule
    of-rule : (items : List Item) (t : Taken) → by_items g e a r items ≡ Some t → t.rule ≡ r
    of-rule items t h =
        let found = given (applied g e r.dest items) (λ b. cond (fits g e a r b) (Some (taken_with r b)) None) t h in
        let is = tested (fits g e a r found.0) (Some (taken_with r found.0)) t found.2 in
        let some : Some (taken_with r found.0) ≡ Some t = is.1 in
        let same : taken_with r found.0 ≡ t = cc in
        sym (ap (λ (z : Taken). z.rule) same)

    by-first : (x : Applied) → numbered_rule ≡ Some x
        → (may_take e state a x.taken.rule ≡ true) × IsFirst (by_items g e a x.taken.rule) x.taken.rule.alternatives x.number
    by-first x h =
        let there = tested (may_take e state a r) (first_some (numbered (by_items g e a r)) (enumerate_from 0 r.alternatives)) x h in
        let s : Stands (by_items g e a r) 0 r.alternatives x = stands (by_items g e a r) 0 r.alternatives x there.1 in
        let same : r ≡ x.taken.rule = sym (of-rule s.item x.taken s.gives) in
        let number : s.position ≡ x.number = (let is : x.number ≡ 0 + s.position = s.number in omega (arith, is)) in
        let first = subst (λ (k : ℕ). IsFirst (by_items g e a r) r.alternatives k) number s.first in
        subst (λ (z : Rule). (may_take e state a z ≡ true) × IsFirst (by_items g e a z) z.alternatives x.number) same (there.0, first)

  matched : (rs : List Rule) → first_some (picked g e state a) (applied_at g e rs) ≡ first_some numbered_rule rs
  matched [] = refl
  matched (r ∷ rs) =
      first_some-both (picked g e state a) (applied_rule g e r) (applied_at g e rs)
      ∙ ap (λ z. or_else z (first_some (picked g e state a) (applied_at g e rs))) (by-rule r)
      ∙ ap (or_else (numbered_rule r)) (matched rs)

  same-rules : (rs : List Rule) → rule_taken (first_some numbered_rule rs) ≡ first_some (asked_rule g e state a) rs
  same-rules [] = refl
  same-rules (r ∷ rs) =
      taken-either (numbered_rule r) (first_some numbered_rule rs)
      ∙ ap (λ z. or_else z (rule_taken (first_some numbered_rule rs))) (same-rule r)
      ∙ ap (or_else (asked_rule g e state a r)) (same-rules rs)

  pub matched_once : (rs : List Rule) → rule_taken (first_some (picked g e state a) (applied_at g e rs)) ≡ first_some (asked_rule g e state a) rs
  matched_once rs = ap rule_taken (matched rs) ∙ same-rules rs

  -- one that it may take, and by the first of its alternatives by which it can
  pub taken_by_first : (rs : List Rule) (x : Applied) → first_some (picked g e state a) (applied_at g e rs) ≡ Some x
      → (may_take e state a x.taken.rule ≡ true) × IsFirst (by_items g e a x.taken.rule) x.taken.rule.alternatives x.number
  taken_by_first rs x h = let found = one-gives numbered_rule rs x (sym (matched rs) ∙ h) in by-first found.0 x found.1
