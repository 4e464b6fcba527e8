-- A rule that is taken is the machine's rule of its number.
use Rattle.std.proofs.Common.{arith, ◌≡◌, ◌≤◌, ◌<◌, ℕ, ◌+◌, nat_eq, Bool, true, false, cond, List, [], ◌∷◌, length, Option, None, Some, sym, ap, subst, ◌∙◌}
use Rattle.std.specs.Prelude.{IfSome}
use Rattle.std.specs.Option.{option_map}
use Rattle.std.proofs.lemmas.List.{length-map}
use Rattle.flow_graph.specs.CPaths.Events.{Event}
use Rattle.type_rules.specs.Options.{or_else, ◌>?◌}
use Rattle.path_model.specs.CheckerModel.Choices.{Taken, first_some, applied, by_alternative}
use Rattle.hole_matching.specs.Holes.{Setting}
use Rattle.hole_matching.specs.Matching.{Binding}
use Rattle.metal_tree.specs.MetalMachines.Limits.{AreNumbered}
use Rattle.metal_tree.specs.MetalMachines.Machine.{Item, Rule}
use Rattle.metal_tree.specs.MetalMachines.Rules.{rule_numbered}
use Rattle.metal_tree.specs.declared.machine.Machine as code
use Rattle.metal_tree.specs.Views.{rule_view, rule_views}
use Rattle.state_tuples.proofs.RuleChoices.AskedRules.{asked}
use Rattle.state_tuples.specs.RuleChoices.Asked.{Asker, asked_rule, may_take, fits}
use Rattle.state_tuples.specs.declared.rule_choices.fired.Fired.{Fired}
use Rattle.state_tuples.specs.Numbers.{IsRuleOf}
use Rattle.state_tuples.specs.RuleChoices.Values.{taken_of}

-- one of two
either : {A : Type 0} (o rest : Option A) (a : A) (P : Type 0) → (o ≡ Some a → P) → (rest ≡ Some a → P) → or_else o rest ≡ Some a → P
either None rest a P f g h = g h
either (Some x) rest a P f g h = f h

module _ (g : Setting) (e : Event) (r : Rule) (p : Binding → Bool) (t : Taken) where
  abbrev made : Binding → Taken
  made b = record { rule = r; binding = b }

  abbrev by : List Item → Option Taken
  by items = applied g e r.dest items >? λ b. cond (p b) (Some (made b)) None

  of_bool : (b : Binding) (c : Bool) → cond c (Some (made b)) None ≡ Some t → t.rule ≡ r
  of_bool b true h = let same : made b ≡ t = cc in sym (ap (λ (z : Taken). z.rule) same)
  of_bool b false h = cc

  of_binding : (o : Option Binding) → (o >? λ b. cond (p b) (Some (made b)) None) ≡ Some t → t.rule ≡ r
  of_binding None h = cc
  of_binding (Some b) h = of_bool b (p b) h

  of_alternatives : (xs : List (List Item)) → first_some by xs ≡ Some t → t.rule ≡ r
  of_alternatives [] h = cc
  of_alternatives (x ∷ xs) h = either (by x) (first_some by xs) t (t.rule ≡ r) (of_binding (applied g e r.dest x)) (of_alternatives xs) h

  where_asked : (c : Bool) → cond c (by_alternative g e r p) None ≡ Some t → t.rule ≡ r
  where_asked true h = of_alternatives r.alternatives h
  where_asked false h = cc

itself : (n : ℕ) → nat_eq n n ≡ true
itself n = grind arith

apart : (n m : ℕ) → n < m → nat_eq n m ≡ false
apart n m h = grind (arith, h)

module _ (g : Setting) (e : Event) (state : ℕ) (a : Asker) (t : Taken) where
  of_rule : (r : Rule) → asked_rule g e state a r ≡ Some t → t.rule ≡ r
  of_rule r h = where_asked g e r (fits g e a r) t (may_take e state a r) (asked g e state a r ∙ h)

  -- the rule has its number among rules that are numbered from this one on
  record Has (number : ℕ) (rs : List Rule) : Type 0 where
    pub low : number ≤ t.rule.number
    pub high : t.rule.number < number + length rs
    pub found : rule_numbered t.rule.number rs ≡ Some t.rule

  here : (number : ℕ) (r : Rule) (rs : List Rule) → r.number ≡ number → t.rule ≡ r → Has number (r ∷ rs)
  here number r rs n same =
      let same_number : t.rule.number ≡ number = ap (λ (z : Rule). z.number) same ∙ n in
      record {
        low = omega arith;
        high = omega arith;
        found = subst (λ (z : Rule). rule_numbered z.number (r ∷ rs) ≡ Some z) (sym same) (ap (λ b. cond b (Some r) (rule_numbered r.number rs)) (itself r.number));
      }

  later : (number : ℕ) (r : Rule) (rs : List Rule) → r.number ≡ number → Has (number + 1) rs → Has number (r ∷ rs)
  later number r rs n h =
      let low = h.low in
      let high = h.high in
      record {
        low = omega arith;
        high = omega arith;
        found = ap (λ b. cond b (Some r) (rule_numbered t.rule.number rs)) (apart r.number t.rule.number (omega arith)) ∙ h.found;
      }

  numbered : (number : ℕ) (rs : List Rule) → AreNumbered number rs → first_some (asked_rule g e state a) rs ≡ Some t → Has number rs
  numbered number [] n h = cc
  numbered number (r ∷ rs) n h =
      either (asked_rule g e state a r) (first_some (asked_rule g e state a) rs) t (Has number (r ∷ rs))
      (λ k. here number r rs n.0 (of_rule r k)) (λ k. later number r rs n.0 (numbered (number + 1) rs n.1 k)) h

pub all_numbered : (m : code.Machine) (g : Setting) (e : Event) (state : ℕ) (a : Asker) (o : Option Fired) → AreNumbered 1 (rule_views m.rules.now)
    → option_map taken_of o ≡ first_some (asked_rule g e state a) (rule_views m.rules.now) → IfSome o (λ f. IsRuleOf m f.rule.now)
all_numbered m g e state a None n h = tt
all_numbered m g e state a (Some f) n h =
    let has = numbered g e state a (taken_of f) 1 (rule_views m.rules.now) n (sym h) in
    let low = has.low in
    let high = has.high in
    let same = length-map m.rules.now rule_view in
    record { low = low; high = omega arith; found = has.found }
