-- An event at which no rule applies, and which writes over nothing, leaves tuples as they are, and no rule is taken there.
use Rattle.std.proofs.Common.{arith, ◌≡◌, inl, inr, ℕ, nat_eq, Bool, true, false, cond, not, ◌||◌, ◌==◌, List, [], ◌∷◌, length, map, Contains, Option, None, Some, refl, sym, ap, subst, ◌∙◌}
use Rattle.std.specs.List.{filter_map, cons_option}
use Rattle.std.specs.Option.{option_map}
use Rattle.std.specs.Prelude.{is_some, is_none}
use Rattle.std.proofs.lemmas.Bool.{and_parts, eqb-true}
use Rattle.state_tuples.proofs.AppliedRules.OfEvents.{global_is, object_is}
use Rattle.state_tuples.specs.declared.applied_rules.rules.EventRules.{EventRules}
use Rattle.state_tuples.specs.AppliedRules.Applied.{Applied}
use Rattle.state_tuples.specs.AppliedRules.Events.{applied_of, AreOfEvent}
use Rattle.state_tuples.specs.Ways.Firsts.{first_taken, rule_taken}
use Rattle.block_flows.proofs.Fires.{fire, fires}
use Rattle.block_flows.specs.Firings.{acting, TakenHere, fire_of}
use Rattle.block_flows.specs.IdleEvents.{is_idle, is_within, leaves_all, AreFollowed, AreLeft}
use Rattle.c_objects.specs.Objects.{Object}
use Rattle.flow_graph.specs.CPaths.Events.{Event}
use Rattle.type_rules.specs.Options.{if_there}
use Rattle.metal_tree.specs.MetalMachines.Machine.{stop}
use Rattle.path_model.specs.CheckerModel.Choices.{State, is_asked, is_global_asked, target_at, global_behind, object_behind, taken, taken_global, next_global, chosen}
use Rattle.path_model.specs.CheckerModel.Happenings.{Function, Happening}
use Rattle.path_model.specs.CheckerModel.Moves.{Move, move_of}
use Rattle.path_model.specs.CheckerModel.Reports.{Checker}
use Rattle.flow_graph.specs.Values.{event_of}
use Rattle.hole_matcher.specs.HoleBindings.Settings.{setting_in}
use Rattle.hole_matching.specs.Holes.{Setting}
use Rattle.least_set.proofs.Growing.{nothing}
use Rattle.least_set.specs.Logs.{IsExactly, SomeGives}
use Rattle.objects.specs.Units.{facts_in}
use Rattle.path_theory.specs.Facts.{HasObject}
use Rattle.state_tuples.specs.RuleChoices.Asked.{Asker, GlobalState, ObjectIn}
use Rattle.state_tuples.specs.declared.tuple.Tuple.{Tuple}
use Rattle.block_flows.proofs.TupleFlows.Events.{behind}
use Rattle.block_flows.proofs.TupleFlows.Followed.{in-contains}
use Rattle.block_flows.proofs.TupleFlows.Lists.{contains-first, contains-cases}
use Rattle.block_flows.proofs.TupleFlows.MovedTuples.{none-unknown, of-object, of-none, stays-itself}
use Rattle.block_flows.proofs.TupleFlows.Tuples.{same-tuple}
use Rattle.block_flows.specs.TupleFlows.Behind.{IsBehind, chosen_object, chosen_tuple}
use Rattle.block_flows.specs.TupleFlows.Facts.{fact_of, is_in, with_object, without_object}
use Rattle.block_flows.specs.TupleFlows.Moved.{AreObjects, IsMoved, source_in}

-- ---- lists of which each value gives itself alone, or nothing

pub themselves : {T : Type 0} (G : T → T → Type 0) (xs : List T) → ((x : T) → Contains xs x → IsExactly (x ∷ []) (G x)) → IsExactly xs (SomeGives G xs)
themselves G xs each = (
  λ y m. (y, m, (each y m).0 y (contains-first y [])),
  λ y s. elim (contains-cases s.0 y [] ((each s.0 s.1).1 y s.2)) [ inl e ↦ subst (Contains xs) e s.1 | inr n ↦ absurd (nothing y n) ],
)

pub no-values : {T B : Type 0} (G : T → B → Type 0) (xs : List T) → ((x : T) → Contains xs x → IsExactly [] (G x)) → IsExactly [] (SomeGives G xs)
no-values G xs each = (λ y m. absurd (nothing y m), λ y s. (each s.0 s.1).1 y s.2)

only : (t u : Tuple) → Contains (t ∷ []) u → t ≡ u
only t u m = elim (contains-cases t u [] m) [ inl e ↦ e | inr n ↦ absurd (nothing u n) ]

one-object : (o b : Object) → Some o ≡ Some b → o ≡ b
one-object o b e = cc

-- ---- where nothing is found

empty : {A : Type 0} (xs : List A) → (length xs == 0) ≡ true → xs ≡ []
empty [] h = refl
empty (x ∷ xs) h = let none : length (x ∷ xs) ≡ 0 = eqb-true (length (x ∷ xs)) 0 h in absurd (omega arith)

missing : {A : Type 0} (o : Option A) → is_none o ≡ true → o ≡ None
missing None h = refl
missing (Some x) h = cc

-- of no rules none is taken
first-none : (g : Setting) (e : Event) (asked : Bool) (state : ℕ) (a : Asker) (xs : List Applied) → xs ≡ [] → rule_taken (first_taken g e asked state a xs) ≡ None
first-none g e asked state a xs n = ap (λ z. rule_taken (first_taken g e asked state a z)) n ∙ ap rule_taken (either (nat_eq state stop || not asked) None)
  where
    either : (b : Bool) (o : Option Applied) → cond b o o ≡ o
    either true o = refl
    either false o = refl

module _ (c : Checker) (h : Happening) (f : Function) (k : Bool) (followed : List Object) (r : EventRules) (of : AreOfEvent c.machine c.depth h f r) (are : AreObjects c.depth followed)
    (idle : is_idle r ≡ true) where
  abbrev moves : Option Move
  moves = move_of (facts_in r.setting.unit.now) r.setting.depth (event_of r.event)

  parts : ((length r.applied.items == 0) ≡ true) × (is_none moves ≡ true)
  parts = and_parts (length r.applied.items == 0) (is_none moves) idle

  no-rules : map applied_of r.applied.items ≡ []
  no-rules = ap (map applied_of) (empty r.applied.items parts.0)

  taken-none : (g : ℕ) (o : Object) (x : Option State) → taken c.machine c.depth h f k g o x ≡ None
  taken-none g o x =
      sym (object_is c.machine c.depth h f r of k (is_asked (event_of r.event) k o) g (ObjectIn o x) o x refl refl)
      ∙ first-none (setting_in r.setting) (event_of r.event) (is_asked (event_of r.event) k o) g (ObjectIn o x) (map applied_of r.applied.items) no-rules

  global-none : (g : ℕ) → taken_global c.machine c.depth h f k g ≡ None
  global-none g =
      sym (global_is c.machine c.depth h f r of k (is_global_asked (event_of r.event) k) g refl)
      ∙ first-none (setting_in r.setting) (event_of r.event) (is_global_asked (event_of r.event) k) g GlobalState (map applied_of r.applied.items) no-rules

  -- the states stay
  same-global : (g : ℕ) → next_global c.machine c.depth h f k g ≡ g
  same-global g = ap (λ z. if_there z g (λ t. global_behind (target_at h.event t.rule.dest) g)) (global-none g)

  same-state : (g : ℕ) (o : Object) (x : Option State) → chosen c.machine c.depth h f k g o x ≡ x
  same-state g o x = ap (λ z. if_there z x (λ t. object_behind (target_at h.event t.rule.dest) x)) (taken-none g o x)

  -- nothing moves
  abbrev M : Option Move
  M = move_of h.facts c.depth h.event

  the-depth : r.setting.depth ≡ c.depth
  the-depth = ap (λ s. s.depth) of.setting

  no-move : M ≡ None
  no-move =
      sym (
      ap (λ z. move_of z r.setting.depth (event_of r.event)) (ap (λ s. s.facts) of.setting)
      ∙ ap (λ z. move_of h.facts z (event_of r.event)) the-depth
      ∙ ap (move_of h.facts c.depth) of.event
      )
      ∙ missing moves parts.1

  -- each object that is followed has its own state
  own-source : (o : Object) → Contains followed o → source_in c.depth M followed o ≡ Some o
  own-source o m = ap (λ z. source_in c.depth z followed o) no-move ∙ stays-itself c.depth followed o are m

  module _ (t : Tuple) (within : is_within followed t ≡ true) where
    abbrev fact-at : (q : Option Object) → q ≡ t.object → fact_of q t.state ≡ fact_of t.object t.state
    fact-at q e = ap (λ z. fact_of z t.state) e

    moved-none : t.object ≡ None → IsExactly (t ∷ []) (IsMoved c.depth M followed t)
    moved-none e =
        let still : is_some M ≡ false = ap is_some no-move in
        let none = none-unknown c.depth M followed (λ (o : Object) (u : Tuple). with_object t o ≡ u) still are in
        let same : without_object t ≡ t = same-tuple (without_object t) t refl (fact-at None (sym e)) in
        subst (λ z. IsExactly (z ∷ []) (IsMoved c.depth M followed t)) same (of-none c.depth M followed t [] e none)

    moved-object : (b : Object) → t.object ≡ Some b → IsExactly (t ∷ []) (IsMoved c.depth M followed t)
    moved-object b e =
        let inside : is_in followed b ≡ true = ap (λ z. if_there z true (is_in followed)) (sym e) ∙ within in
        let there = in-contains followed b inside in
        let same : with_object t b ≡ t = same-tuple (with_object t b) t refl (fact-at (Some b) (sym e)) in
        of-object c.depth M followed t b (t ∷ []) e (
          λ u m. (b, there, (own-source b there, same ∙ only t u m)),
          λ u s.
              let one : s.0 ≡ b = one-object s.0 b (sym (own-source s.0 s.1) ∙ s.2.0) in
              subst (Contains (t ∷ [])) (sym same ∙ ap (with_object t) (sym one) ∙ s.2.1) (contains-first t []),
        )

    -- behind the move the tuple stands alone
    moved-alone : IsExactly (t ∷ []) (IsMoved c.depth M followed t)
    moved-alone = by t.object refl
      where
        by : (q : Option Object) → t.object ≡ q → IsExactly (t ∷ []) (IsMoved c.depth M followed t)
        by None e = moved-none e
        by (Some b) e = moved-object b e

    -- and it is chosen itself
    chosen-itself : (q : Option Object) → t.object ≡ q → chosen_object c h f k t.global t.global q t.state ≡ t
    chosen-itself None e = same-tuple (chosen_object c h f k t.global t.global None t.state) t refl (fact-at None (sym e))
    chosen-itself (Some o) e =
        same-tuple (chosen_object c h f k t.global t.global (Some o) t.state) t refl (ap (HasObject o) (same-state t.global o t.state) ∙ fact-at (Some o) (sym e))

    pub behind-alone : IsExactly (t ∷ []) (IsBehind c h f k followed t)
    behind-alone =
        let same : chosen_tuple c h f k t.global t ≡ t = chosen-itself t.object refl in
        subst (λ z. IsExactly (z ∷ []) (IsBehind c h f k followed t)) same (behind c h f k followed t t.global (sym (same-global t.global)) (t ∷ []) moved-alone)

    fires-none : (g : ℕ) (q : Option Object) (x : Option State)
        → if_there q (acting (taken_global c.machine c.depth h f k g)) (λ o. acting (taken c.machine c.depth h f k g o x)) ≡ None
    fires-none g None x = ap acting (global-none g)
    fires-none g (Some o) x = ap acting (taken-none g o x)

    pub nothing-taken : (n : ℕ) → IsExactly [] (TakenHere c h f k followed n t)
    nothing-taken n =
        let none : filter_map (fire_of c h f k n) (t ∷ []) ≡ [] = ap (λ z. cons_option (option_map (fire n t.object) z) []) (fires-none t.global t.object t.state) in
        subst (λ l. IsExactly l (TakenHere c h f k followed n t)) none (fires c f k followed h n t (t ∷ []) moved-alone)

-- THE TUPLES ARE LEFT as they are, as the test says
pub left_alone : (c : Checker) (h : Happening) (f : Function) (k : Bool) (followed : List Object) (r : EventRules) (ts : List Tuple) (within : Bool) → leaves_all r within ≡ true
    → AreOfEvent c.machine c.depth h f r → AreObjects c.depth followed → (within ≡ true → AreFollowed followed ts) → AreLeft c h f k followed ts
left_alone c h f k followed r ts within e of are inside =
    let p = and_parts (is_idle r) within e in record {
      behind = themselves (IsBehind c h f k followed) ts (λ t m. behind-alone c h f k followed r of are p.0 t (inside p.1 t m));
      quiet = λ n. no-values (TakenHere c h f k followed n) ts (λ t m. nothing-taken c h f k followed r of are p.0 t (inside p.1 t m) n);
    }
